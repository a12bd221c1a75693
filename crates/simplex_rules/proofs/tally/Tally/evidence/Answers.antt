use Rattle.std.proofs.Common.{◌≡◌, List, length, take, refl, sym, ap, ◌∙◌, subst, [], ◌∷◌, ◌++◌, ◌+◌}
use Rattle.std.proofs.lemmas.List.{take_all, take_more}
use Rattle.std.proofs.lemmas.Option.{slice_get_read}
use Rattle.types_core.specs.Subject.{finalize, notarize}
use Rattle.simplex_messages.specs.Guilt.{finalizes_of, notarizes_of}
use Rattle.simplex_rules.specs.declared.cast.Suspect.{Suspect}
use Rattle.simplex_rules.specs.Kept.{StandsAt}
use Rattle.simplex_rules.proofs.Judging.{apart}
use Rattle.simplex_rules.proofs.Pieces.{Pieces, pieces_none, pieces_more}
use Rattle.simplex_rules.proofs.Verdicts.{IsVerdict-from_pieces}
use Rattle.simplex_rules.proofs.tally.Tally.evidence.Goals as goal

pub loop-place-init : goal.loop-place-init
loop-place-init g c = rw c.new-evidence.ensures.items (pieces_none g.S.Scheme.lists (g.S.Scheme.attests c.args.scheme.now) g.D.Ord.cmp c.args.contested.now c.args.self.now)

pub push_evidence-requires-clause-notarizes : goal.push_evidence-requires-clause-notarizes
push_evidence-requires-clause-notarizes g c =
    let contested = c.args.contested.now in
    let suspects = c.as_slice-suspects.result.now in
    let q = c.index-suspects-place.result in
    let stands : StandsAt contested c.loop-place.place q = (c.as_slice-suspects.ensures.ordered, rw c.as_slice-suspects.ensures.keys at (slice_get_read suspects (length suspects) c.loop-place.place q refl c.loop-place-test.true c.index-suspects-place.is)) in
    apart notarize (g.S.Scheme.attests c.args.scheme.now) (notarizes_of g.S.Scheme.lists c.requires.0) g.D.Ord.cmp contested c.args.self.now.notarizes.kept.items c.requires.1.notarizes g.met.D.Ord.total c.loop-place.place q stands

pub push_evidence-requires-clause-finalizes : goal.push_evidence-requires-clause-finalizes
push_evidence-requires-clause-finalizes g c =
    let contested = c.args.contested.now in
    let suspects = c.as_slice-suspects.result.now in
    let q = c.index-suspects-place.result in
    let stands : StandsAt contested c.loop-place.place q = (c.as_slice-suspects.ensures.ordered, rw c.as_slice-suspects.ensures.keys at (slice_get_read suspects (length suspects) c.loop-place.place q refl c.loop-place-test.true c.index-suspects-place.is)) in
    apart finalize (g.S.Scheme.attests c.args.scheme.now) (finalizes_of g.S.Scheme.lists c.requires.0) g.D.Ord.cmp contested c.args.self.now.finalizes.kept.items c.requires.1.finalizes g.met.D.Ord.total c.loop-place.place q stands

pub loop-place-preserved : goal.loop-place-preserved
loop-place-preserved g c =
    let contested = c.args.contested.now in
    let suspects = c.as_slice-suspects.result.now in
    let q = c.index-suspects-place.result in
    let stands : StandsAt contested c.loop-place.place q = (c.as_slice-suspects.ensures.ordered, rw c.as_slice-suspects.ensures.keys at (slice_get_read suspects (length suspects) c.loop-place.place q refl c.loop-place-test.true c.index-suspects-place.is)) in
    let attests = g.S.Scheme.attests c.args.scheme.now in
    let front = take c.loop-place.place suspects in
    let whole : take (c.loop-place.place + 1) suspects ≡ front ++ q ∷ [] = take_more suspects c.loop-place.place q c.loop-place-test.true ∙ ap (λ (p : Suspect). front ++ p ∷ []) (sym c.index-suspects-place.is) in
    let more = pieces_more g.S.Scheme.lists attests g.D.Ord.cmp contested c.args.self.now front q c.loop-place.evidence.items c.push_evidence.new.evidence.items c.loop-place.invariant (c.in_ok-push_evidence.ensures contested stands) in
    subst (λ (qs : List Suspect). Pieces g.S.Scheme.lists attests g.D.Ord.cmp contested c.args.self.now qs c.push_evidence.new.evidence.items) (sym whole) more

pub returns : goal.returns
returns g c = λ reports guilty h.
    let lists = g.S.Scheme.lists in
    let attests = g.S.Scheme.attests c.args.scheme.now in
    let contested = c.args.contested.now in
    let whole : take c.loop-place.place c.as_slice-suspects.result.now ≡ contested.keys = take_all c.loop-place.place c.as_slice-suspects.result.now c.loop-place-test.false ∙ c.as_slice-suspects.ensures.keys in
    let all = subst (λ (qs : List Suspect). Pieces lists attests g.D.Ord.cmp contested c.args.self.now qs c.loop-place.evidence.items) whole c.loop-place.invariant in
    IsVerdict-from_pieces lists attests g.D.Ord.cmp g.met.D.Ord.total contested reports c.args.self.now h guilty c.loop-place.evidence.items all c.as_slice-suspects.ensures.ordered
