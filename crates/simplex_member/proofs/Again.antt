-- Asks do go again: behind a repeated nullify what stands, and nothing settled, was asked since the time was told last.
use Rattle.std.proofs.Common.{◌≡◌, ◌⊎◌, inl, inr, ⊎_elim, ℕ, ◌&&◌, Bool, true, false, List, [], ◌∷◌, Option, Some, None, refl, sym, ◌∙◌, ap, subst}
use Rattle.std.specs.Prelude.{Contains, if◌then◌else◌}
use Rattle.std.proofs.lemmas.Bool.{cases_eq}
use Rattle.std.proofs.lemmas.Option.{none-some}
use Rattle.types_quorum.specs.Counting.{Contains-cases, Contains-head, Contains-nil, Contains-rest}
use Rattle.types_core.specs.declared.scheme.Scheme.{Ghosts}
use Rattle.messages_certificates.specs.declared.certificate.Certificate.{Certificate}
use Rattle.messages_certificates.specs.declared.nullify.Nullify.{Nullify}
use Rattle.simplex_resolver.specs.declared.ask.Ask.{Ask}
use Rattle.simplex_resolver.specs.declared.ask.Kind as repair
use Rattle.simplex_resolver.specs.declared.ask.Kind.TheVariants as repair_kind
use Rattle.simplex_resolver.specs.declared.ask.Until.{Until}
use Rattle.simplex_resolver.specs.declared.ask.Until.TheVariants as until
use Rattle.voter_rules.specs.declared.config.Again.{Again}
use Rattle.voter_rules.specs.declared.config.Again.TheVariants as again
use Rattle.simplex_member.specs.declared.asked.Asked.{Asked}
use Rattle.simplex_member.specs.Allowed.{AskIsDue}
use Rattle.simplex_member.specs.Asked.{IsPending, IsSent, asks_now, asks_of, backfill, goes_again, sent_of, was_repeated}
use Rattle.simplex_member.specs.Member.{Goes, NoAskIsDue}
use Rattle.simplex_member.specs.Packet.{Formats}
use Rattle.simplex_member.specs.Point.{Point, Opened, Told, Asks, Repeats, AreActs, History, is_act}
use Rattle.simplex_member.specs.Repairing.{IsToBeLeft, StillStands, UnsettledAsksGoAgain, is_until_floor}
use Rattle.simplex_member.specs.Setup.{Setup}
use Rattle.simplex_member.proofs.Lists.{some-is}
use Rattle.simplex_member.proofs.Raising.{acts-head, acts-rest}
use Rattle.simplex_member.proofs.Telling.{apart}

-- ---- an ask stands in a list or it doesn't

abbrev is_nullification : repair.Kind → Bool
is_nullification repair_kind.Nullification = true
is_nullification repair_kind.Notarization = false

same-kind : (a b : repair.Kind) → (a ≡ b) ⊎ (a ≡ b → ⊥)
same-kind repair_kind.Nullification repair_kind.Nullification = inl refl
same-kind repair_kind.Nullification repair_kind.Notarization = inr (λ is. apart (sym (ap is_nullification is)))
same-kind repair_kind.Notarization repair_kind.Nullification = inr (λ is. apart (ap is_nullification is))
same-kind repair_kind.Notarization repair_kind.Notarization = inl refl

same-until : (a b : Until) → (a ≡ b) ⊎ (a ≡ b → ⊥)
same-until until.Floor until.Floor = inl refl
same-until until.Floor until.Finalization = inr (λ is. apart (sym (ap is_until_floor is)))
same-until until.Finalization until.Floor = inr (λ is. apart (ap is_until_floor is))
same-until until.Finalization until.Finalization = inl refl

same-target : (a b : Option ℕ) → (a ≡ b) ⊎ (a ≡ b → ⊥)
same-target None None = inl refl
same-target None (Some y) = inr (λ is. none-some y is)
same-target (Some x) None = inr (λ is. none-some x (sym is))
same-target (Some x) (Some y) = ⊎_elim (λ is. inl (ap (λ (n : ℕ). Some n) is)) (λ other. inr (λ is. other (some-is x y is))) (cases_eq x y)

same-ask : (x y : Asked) → (x ≡ y) ⊎ (x ≡ y → ⊥)
same-ask x y = ⊎_elim
    (λ view. ⊎_elim
    (λ kind. ⊎_elim
    (λ until. ⊎_elim
    (λ to. inl (
    ap (λ (v : ℕ). record { view = v; ask = x.ask; to = x.to }) view
    ∙ ap (λ (k : repair.Kind). record { view = y.view; ask = record { kind = k; until = x.ask.until }; to = x.to }) kind
    ∙ ap (λ (u : Until). record { view = y.view; ask = record { kind = y.ask.kind; until = u }; to = x.to }) until
    ∙ ap (λ (o : Option ℕ). record { view = y.view; ask = y.ask; to = o }) to
    ))
    (λ other. inr (λ is. other (ap (λ (a : Asked). a.to) is)))
    (same-target x.to y.to))
    (λ other. inr (λ is. other (ap (λ (a : Asked). a.ask.until) is)))
    (same-until x.ask.until y.ask.until))
    (λ other. inr (λ is. other (ap (λ (a : Asked). a.ask.kind) is)))
    (same-kind x.ask.kind y.ask.kind))
    (λ other. inr (λ is. other (ap (λ (a : Asked). a.view) is)))
    (cases_eq x.view y.view)

among : (xs : List Asked) (x : Asked) → Contains xs x ⊎ (Contains xs x → ⊥)
among [] x = inr (λ here. Contains-nil x here)
among (y ∷ xs) x = ⊎_elim
    (λ is. inl (subst (λ (z : Asked). Contains (y ∷ xs) z) is (Contains-head y xs)))
    (λ other. ⊎_elim
    (λ later. inl (Contains-rest y xs x later))
    (λ none. inr (λ here. ⊎_elim (λ is. other is) (λ later. none later) (Contains-cases y xs x here)))
    (among xs x))
    (same-ask y x)

-- ---- through acts

module _ {S D P G C : Type 0} where
  -- that a nullify was repeated since the time was told stays so
  repeated-stays : (p : Point S D P G C) (h : History S D P G C) → is_act p ≡ true → was_repeated h ≡ true → was_repeated (p ∷ h) ≡ true
  repeated-stays (Opened now) h own is = absurd (apart own)
  repeated-stays (Told now) h own is = absurd (apart own)
  repeated-stays (Repeats v best) h own is = refl
  repeated-stays p h own is = is

  asked-stays : (p : Point S D P G C) (h : History S D P G C) (x : Asked) → Contains (asks_of h) x → Contains (asks_of (p ∷ h)) x
  asked-stays (Asks view ask to) h x here = Contains-rest {X = Asked} (record { view = view; ask = ask; to = to }) (asks_of h) x here
  asked-stays p h x here = here

  -- what was asked since the time was told was so before this act, or is this act
  asked-then : (p : Point S D P G C) (h : History S D P G C) (acts : List (Point S D P G C)) (x : Asked) → is_act p ≡ true → Contains (asks_now (p ∷ h)) x
      → Contains (asks_now h) x ⊎ Contains (p ∷ acts) (Asks x.view x.ask x.to)
  asked-then (Opened now) h acts x own here = absurd (apart own)
  asked-then (Told now) h acts x own here = absurd (apart own)
  asked-then (Asks view ask to) h acts x own here = ⊎_elim
      (λ is. inr (subst (λ (y : Asked). Contains (Asks view ask to ∷ acts) (Asks y.view y.ask y.to)) is (Contains-head (Asks view ask to) acts)))
      (λ before. inl before)
      (Contains-cases {X = Asked} (record { view = view; ask = ask; to = to }) (asks_now h) x here)
  asked-then p h acts x own here = inl here

module _ {S D P G C : Type 0} (g : Ghosts S D P G C) (f : Formats S D P G C) (s : Setup S D C) where
  repeated-still : (h : History S D P G C) (acts : List (Point S D P G C)) (end : History S D P G C) → AreActs acts → Goes g f s h acts end → was_repeated h ≡ true → was_repeated end ≡ true
  repeated-still h [] end own goes is = subst (λ (l : History S D P G C). was_repeated l ≡ true) (sym goes) is
  repeated-still h (p ∷ acts) end own goes is = repeated-still (p ∷ h) acts end (acts-rest g f s p acts own) goes.1 (repeated-stays p h (acts-head g f s p acts own) is)

  -- behind acts among which a nullify was repeated it was so since the time was told
  repeated-then : (h : History S D P G C) (acts : List (Point S D P G C)) (end : History S D P G C) (v : Nullify S D P G C) (best : Option (Certificate S D P G C)) → AreActs acts → Goes g f s h acts end → Contains acts (Repeats v best) → was_repeated end ≡ true
  repeated-then h [] end v best own goes here = absurd (Contains-nil (Repeats v best) here)
  repeated-then h (p ∷ acts) end v best own goes here = ⊎_elim
      (λ is. repeated-still (p ∷ h) acts end (acts-rest g f s p acts own) goes.1 (subst (λ (q : Point S D P G C). was_repeated (q ∷ h) ≡ true) (sym is) refl))
      (λ later. repeated-then (p ∷ h) acts end v best (acts-rest g f s p acts own) goes.1 later)
      (Contains-cases p acts (Repeats v best) here)

  asked-still : (h : History S D P G C) (acts : List (Point S D P G C)) (end : History S D P G C) (x : Asked) → Goes g f s h acts end → Contains (asks_of h) x → Contains (asks_of end) x
  asked-still h [] end x goes here = subst (λ (l : History S D P G C). Contains (asks_of l) x) (sym goes) here
  asked-still h (p ∷ acts) end x goes here = asked-still (p ∷ h) acts end x goes.1 (asked-stays p h x here)

  asked-now : (h : History S D P G C) (acts : List (Point S D P G C)) (end : History S D P G C) (x : Asked) → AreActs acts → Goes g f s h acts end → Contains (asks_now end) x
      → Contains (asks_now h) x ⊎ Contains acts (Asks x.view x.ask x.to)
  asked-now h [] end x own goes here = inl (subst (λ (l : History S D P G C). Contains (asks_now l) x) goes here)
  asked-now h (p ∷ acts) end x own goes here = ⊎_elim
      (λ now. asked-then p h acts x (acts-head g f s p acts own) now)
      (λ later. inr (Contains-rest p acts (Asks x.view x.ask x.to) later))
      (asked-now (p ∷ h) acts end x (acts-rest g f s p acts own) goes.1 here)

  -- ---- what stands goes again

  -- an ask until a finalization is for no view to leave behind
  not-left : (ask : Ask) → ask ≡ backfill → ask.until ≡ until.Finalization → ⊥
  not-left ask is stands = apart (sym (ap is_until_floor stands) ∙ ap (λ (a : Ask). is_until_floor a.until) is)

  -- where asks go again, those that went out for now were sent since the time was told
  sent-now : (h : History S D P G C) → s.repair.again ≡ again.WithNullify → was_repeated h ≡ true → sent_of s h ≡ asks_now h
  sent-now h is repeated = ap (λ (b : Bool). if b then asks_now h else asks_of h) (ap (λ (k : Again). goes_again k && was_repeated h) is ∙ repeated)

  module _ (end : History S D P G C) (none : NoAskIsDue g f s end) where
    -- what is to be left behind went out for now
    left-sent : (view : ℕ) (ask : Ask) (to : Option ℕ) → IsToBeLeft g f s end view ask to → (IsSent f s end view ask to → ⊥) → ⊥
    left-sent view ask None left unsent = none.no_ask view ask (record { sought = inl (inl (left.is, left.outstanding)); first = unsent; within = λ same. left.within })
    left-sent view ask (Some target) left unsent = none-some target (sym left.of_all)

    -- and so did what was asked until a finalization
    pending-sent : (view : ℕ) (ask : Ask) (to : Option ℕ) → IsPending end view ask to → (IsSent f s end view ask to → ⊥) → ⊥
    pending-sent view ask None pending unsent = none.no_ask view ask (record { sought = inr pending; first = unsent; within = λ same. absurd (not-left ask same pending.0) })
    pending-sent view ask (Some target) pending unsent = none.none_again view ask target pending (record { sought = inr pending; first = unsent; within = λ same. absurd (not-left ask same pending.0) })

  pub unsettled-go-again : UnsettledAsksGoAgain g f s
  unsettled-go-again h end acts v best is own goes repeats none view ask to still = asked-now h acts end x own goes (⊎_elim (λ there. there) (λ missing. absurd (not-missing missing)) (among (asks_now end) x))
    where
      x : Asked
      x = record { view = view; ask = ask; to = to }

      unsent : (Contains (asks_now end) x → ⊥) → IsSent f s end view ask to → ⊥
      unsent missing sent = ⊎_elim
          (λ settled. apart (sym still.unsettled ∙ settled))
          (λ here. missing (subst (λ (l : List Asked). Contains l x) (sent-now end is (repeated-then h acts end v best own goes repeats)) here))
          sent

      not-missing : (Contains (asks_now end) x → ⊥) → ⊥
      not-missing missing = ⊎_elim
          (λ left. left-sent end none view ask to left (unsent missing))
          (λ pending. pending-sent end none view ask to (pending.0, asked-still h acts end x goes pending.1) (unsent missing))
          still.stands
