use Rattle.std.proofs.Common.{◌+◌, ◌-◌, ◌≤◌, length, take, vec_items, vec_len, vec_capacity}
use Rattle.book.specs.Uses.{Ran, SameDesk, at_desk}
use Rattle.book.proofs.uses.run.Given as goal

-- the calls so far were made, and there is room for the others' slips and answers
abbrev pub invariant-loop-call : goal.invariant-loop-call
invariant-loop-call g l = record {
  ran : Ran g.M.Medium.meaning g.F.Forms.bytes g.F.Forms.reads (take l.call-index l.calls) (vec_items l.answers) (at_desk l.initial.desk) (at_desk l.desk);
  slips : vec_len l.desk.slips.now.given + (length l.calls - l.call-index) ≤ vec_capacity l.desk.slips.now.given;
  answers : vec_len l.answers + (length l.calls - l.call-index) ≤ vec_capacity l.answers;
  same : SameDesk l.initial.desk l.desk;
}
