mod HexTexts
