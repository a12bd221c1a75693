use Rattle.std.proofs.Common.{◌++◌, [], ◌∷◌, ◌<◌, length, take, drop, sym, ◌∙◌, ap, subst, refl, inr, map, List, ℕ, arith, length-take, length-drop}
use Rattle.std.specs.List.{All}
use Rattle.std.proofs.lemmas.List.Elements.{All-nil, All-cons, All-append}
use Rattle.types_codec.specs.Codec.{Readable, SpellsNone}
use Rattle.journal_single.specs.Record.{IsLeft, FitsBelow}
use Rattle.journal_single.specs.Finding.{left_next, found_at, foreign_at}
use Rattle.journal_single.proofs.entries.read_entries_below.Goals as goal

pub returns-then-size-limit-clause-faults : goal.returns-then-size-limit-clause-faults
returns-then-size-limit-clause-faults g c =
    let Fits = FitsBelow c.args.limit (Readable g.M.Write.fits (g.M.Read.within 65535)) g.M.Write.spelling in
    inr (
      _,
      refl,
      foreign_at Fits g.M.Write.spelling c.args.bytes.now c.loop-size.rest.now _ _ _ c.loop-size.messages.items c.loop-size.invariant.1 c.loop-size.invariant.0 c.in-Some.ensures.some
          (λ m fits is. absurd (omega (arith, fits.1, ap length is, length-take c.in-Some.size (drop 5 c.loop-size.rest.now), c.in-Some.ensures.within, length-drop 5 c.loop-size.rest.now, c.if-size-limit.true))) refl,
    )

pub returns-in_default-2-clause-faults : goal.returns-in_default-2-clause-faults
returns-in_default-2-clause-faults g c =
    let Fits = Readable g.M.Write.fits (g.M.Read.within 65535) in
    let Short = FitsBelow c.args.limit Fits g.M.Write.spelling in
    let behind_is = c.split_at.ensures.back in
    let body_is = c.split_at-in-Some.ensures.front ∙ ap (λ (l : List ℕ). take c.in-Some.size l) behind_is in
    let none : SpellsNone Fits g.M.Write.spelling c.split_at-in-Some.result.0.now = rw c.in_default-2.is at c.in_ok-message.ensures.none in
    let here : SpellsNone Fits g.M.Write.spelling (take c.in-Some.size (drop 5 c.loop-size.rest.now)) = subst (λ (l : List ℕ). SpellsNone Fits g.M.Write.spelling l) body_is none in
    inr (
      _,
      refl,
      foreign_at Short g.M.Write.spelling c.args.bytes.now c.loop-size.rest.now _ _ _ c.loop-size.messages.items c.loop-size.invariant.1 c.loop-size.invariant.0 c.in-Some.ensures.some
          (λ m fits is. here m fits.0 is) refl,
    )

pub loop-size-preserved : goal.loop-size-preserved
loop-size-preserved g c =
    let Fits = FitsBelow c.args.limit (Readable g.M.Write.fits (g.M.Read.within 65535)) g.M.Write.spelling in
    let behind_is = c.split_at.ensures.back in
    let body_is = c.split_at-in-Some.ensures.front ∙ ap (λ (l : List ℕ). take c.in-Some.size l) behind_is in
    let after_is = c.split_at-in-Some.ensures.back ∙ ap (λ (l : List ℕ). drop c.in-Some.size l) behind_is in
    let one = rw c.in-Some-2.is at c.in_ok-message.ensures.some in
    let pushed = c.in_ok-push.ensures.items in
    let short : length (g.M.Write.spelling c.in-Some-2.message) < c.args.limit =
    omega (arith, c.if-size-limit.false, ap length one.0, ap length body_is, length-take c.in-Some.size (drop 5 c.loop-size.rest.now)) in
    let left = left_next g.M.Write.spelling c.args.bytes.now c.loop-size.rest.now _ _ c.loop-size.messages.items c.in-Some-2.message c.loop-size.invariant.0 c.in-Some.ensures.some (sym body_is ∙ one.0) in (
      subst (λ (ms : List _). IsLeft [] c.args.bytes.now c.split_at-in-Some.result.1.now (map g.M.Write.spelling ms)) (sym pushed)
          (subst (λ (l : List ℕ). IsLeft [] c.args.bytes.now l (map g.M.Write.spelling (c.loop-size.messages.items ++ c.in-Some-2.message ∷ []))) (sym after_is) left),
      subst (All Fits) (sym pushed) (All-append Fits c.loop-size.messages.items (c.in-Some-2.message ∷ []) c.loop-size.invariant.1 (All-cons Fits c.in-Some-2.message [] (one.1, short) (All-nil Fits))),
    )

pub returns-clause-found : goal.returns-clause-found
returns-clause-found g c = found_at c.args.bytes.now c.loop-size.rest.now _ _ c.loop-size.invariant.0 c.in_default.ensures.none refl
