use Rattle.std.proofs.Common.{◌≡◌, length, refl, ◌∙◌, Some}
use Rattle.std.proofs.lemmas.Option.{slice_get_read}
use Rattle.simplex_rules.specs.Kept.{kept_of}
use Rattle.simplex_rules.specs.Tally.{KeepsVotes, cast_of}
use Rattle.simplex_rules.proofs.Standing.{kept_at_place, kept_set, stands-there}
use Rattle.simplex_rules.proofs.Tallies.{Tallies-push}
use Rattle.simplex_rules.proofs.ballots.Ballots.keep.Goals as goal

pub returns : goal.returns
returns g c = λ contested counted stands t.
    let Keeps = KeepsVotes g.K.ProposalKind.states (g.S.Scheme.attests c.args.scheme.now) g.D.Ord.cmp in
    let items = c.reach.new.self.kept.items in
    let q = c.args.suspect.now in
    let inside = c.in_ok-reach.ensures.reached in
    let found : kept_of contested items q ≡ Some c.index_mut.result.now = kept_at_place contested items c.args.place q stands ∙ slice_get_read items (length items) c.args.place c.index_mut.result.now refl inside c.index_mut.ensures.value in
    Tallies-push contested Keeps counted items _ q (cast_of c.args.vote.now) c.weigh.new.kept (stands-there contested c.args.place q stands) (c.in_ok-reach.ensures.same c.args.scheme.now contested counted t) (rw found c.weigh.ensures) (kept_set contested items c.args.place q c.weigh.new.kept stands inside)
