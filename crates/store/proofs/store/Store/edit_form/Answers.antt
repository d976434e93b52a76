use Rattle.std.proofs.Common.{◌≡◌, take, refl}
use Rattle.store.proofs.FormWays.{written}
use Rattle.store.proofs.store.Store.edit_form.Goals as goal

pub returns : goal.returns
returns g c =
    let is : take c.write-n.result c.write-n.new.out ≡ g.F.RecordForm.bytes c.args.value.now =
    written _ _ _ _ refl c.write-n.ensures.after c.write-n.ensures.count (g.met.F.RecordForm.short c.args.value.now) in
    record { edits = (c.edit.result, c.under.ensures, rw is at c.edit.ensures.edits); state = c.edit.ensures.state }
