-- What is due stands on ground.
use Rattle.std.proofs.Common.{◌≡◌, ◌⊎◌, inl, inr, true, false, ℕ, List, sym, ◌∙◌, subst, refl, ◌+◌, ◌-◌, arith}
use Rattle.std.proofs.lemmas.Bool.Decides.{nat_tests}
use Rattle.std.proofs.lemmas.Option.{none-some}
use Rattle.std.specs.Prelude.{◌||◌, ◌==◌, Bool, Option, Some, None, is_some, IsSome, if◌then◌else◌}
use Rattle.types_core.specs.Positions.{IsTermStart}
use Rattle.types_core.specs.declared.proposal.Proposal.{Proposal}
use Rattle.simplex_record.specs.Record.{Entry}
use Rattle.simplex_record.specs.Chain.{IsGround}
use Rattle.voter_history.specs.Past.{verdict_is_true}
use Rattle.voter_history.specs.Known.{Known}
use Rattle.voter_rules.specs.Ancestry.{Member, explicit, Leads, IsParent, IsPreferred, IsRequired}
use Rattle.voter_rules.specs.Requests.{CertifyIsDue}
use Rattle.voter_laws.specs.Matching.{Matches, DueNotarizeIsOnGround, DueVerdictIsOnGround}
use Rattle.voter_laws.proofs.Recordable.{some_of}

-- why a payload is explicit
why_explicit : {A D : Type 0} (start : Bool) (finalized : Option A) (verdict : Option Bool) (genesis held : Option D) (x : D)
    → (if start then genesis else (if is_some finalized || verdict_is_true verdict then held else None)) ≡ Some x
    → (start ≡ true) ⊎ (IsSome finalized ⊎ (verdict ≡ Some true))
why_explicit true finalized verdict genesis held x e = inl refl
why_explicit false (Some q) verdict genesis held x e = inr (inl refl)
why_explicit false None (Some true) genesis held x e = inr (inr refl)
why_explicit false None (Some false) genesis held x e = absurd (none-some x e)
why_explicit false None None genesis held x e = absurd (none-some x e)

module _ {D : Type 0} (m : Member) (k : Known D) (r : List (Entry D)) (matches : Matches m k r) where
  -- what is explicit is ground
  pub ground_of : (u : ℕ) (x : D) → explicit m k u ≡ Some x → IsGround r u
  ground_of u x e = because (why_explicit (u == 0) (k.finalized u) (k.verdict u) _ _ x e)
    where
      because : ((u == 0) ≡ true) ⊎ (IsSome (k.finalized u) ⊎ (k.verdict u ≡ Some true)) → IsGround r u
      because (inl start) = inl (grind (arith, nat_tests, start))
      because (inr (inl here)) =
          let some = some_of (k.finalized u) here in
          let one = matches.finalized u some.0 some.1 in
          inr (inl (some.0, one.0, one.1))
      because (inr (inr verdict)) = inr (inr (matches.certified u verdict))

  -- a parent that may stand at a term's start, or that would be built on there, is ground, or this member leads by the schedule
  ground_parent : (view parent i : ℕ) (payload : D) → m.me ≡ Some i → IsTermStart m.length view
      → IsParent m k view parent payload ⊎ (Leads m k view × IsPreferred m k view parent payload) → IsGround r parent ⊎ (m.scheduled view ≡ Some i)
  ground_parent view parent i payload me start (inl rule) = inl (ground_of parent payload (rule.supports.outside (λ window. window.inside start)))
  ground_parent view parent i payload me start (inr (leads, inl before)) = absurd (before.inside start)
  ground_parent view parent i payload me start (inr (leads, inr (inl last))) = inl (ground_of parent payload last.there)
  ground_parent view parent i payload me start (inr (leads, inr (inr over))) =
      inr (subst (λ (v : ℕ). m.scheduled v ≡ Some i) (sym over.next) (over.handoff.leads.named ∙ me))

  -- inside a term the parent that a verdict waits for is
  pub ground_inside : (view : ℕ) (p : Proposal D) → CertifyIsDue m k view p → ¬ IsTermStart m.length view → IsGround r p.parent
  ground_inside view p due within =
      let required : IsRequired m k view p.parent (view - 1) = record { next = omega (arith, due.opens.above); early = λ start. absurd (within start) } in
      let some = some_of (explicit m k (view - 1)) (due.explicit (view - 1) required) in
      subst (λ (u : ℕ). IsGround r u) (before (due.opens.span (view - 1) required).next) (ground_of (view - 1) some.0 some.1)
    where
      before : IsTermStart m.length view ⊎ (view ≡ p.parent + 1) → view - 1 ≡ p.parent
      before (inl start) = absurd (within start)
      before (inr next) = omega (arith, next)

pub due_notarize_is_on_ground : {D : Type 0} → DueNotarizeIsOnGround D
due_notarize_is_on_ground m k r view i p me matches b due =
    let stands = due.steady (p, b.payload) b.bound in
    subst (λ (v : ℕ). IsTermStart m.length v → IsGround r p.parent ⊎ (m.scheduled v ≡ Some i)) (sym b.at)
    (λ start. ground_parent m k r matches view p.parent i b.payload me start stands.parent)

pub due_verdict_is_on_ground : {D : Type 0} → DueVerdictIsOnGround D
due_verdict_is_on_ground {D} m k r view size p many matches due =
    let one = matches.notarized view p due.opens.notarized in
    (p, refl, one.1, ground one.0)
  where
    ground : p.round.view ≡ view → ¬ IsTermStart m.length p.round.view ⊎ (size ≡ 1) → IsGround r p.parent
    ground at (inl within) = ground_inside m k r matches view p due (subst (λ (v : ℕ). ¬ IsTermStart m.length v) at within)
    ground at (inr alone) = absurd (many alone)
