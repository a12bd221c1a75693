use Rattle.std.proofs.Common.{◌≡◌, length, refl, None, Some}
use Rattle.std.specs.Prelude.{slice_get}
use Rattle.std.proofs.lemmas.Option.{slice_get_past, slice_get_read}
use Rattle.simplex_rules.proofs.ballots.Ballots.contains.Goals as goal

pub returns-in-None : goal.returns-in-None
returns-in-None g c = λ _ kept there.
    let item = rw c.deref.ensures.value at c.in-None.ensures.lookup in
    let past : slice_get c.args.self.now.kept.items c.args.place ≡ None = slice_get_past c.args.self.now.kept.items c.args.place item.3 in
    cc

pub returns-in-Some : goal.returns-in-Some
returns-in-Some g c = λ none kept there.
    let items = c.args.self.now.kept.items in
    let item = rw c.deref.ensures.value at c.in-Some.ensures.lookup in
    let found : slice_get items c.args.place ≡ Some c.in-Some.kept.now = slice_get_read items (length items) c.args.place c.in-Some.kept.now refl item.3.0 item.1 in
    let is = c.is_any.ensures none in
    cc
