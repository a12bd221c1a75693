-- What a view's round answers, as what is known of the view.
use Rattle.std.proofs.Common.{◌≡◌, ◌∙◌, ℕ, Bool, true, false, refl, sym, ap, subst}
use Rattle.std.specs.Prelude.{◌↔◌, ◌&&◌, not, List, [], Option, Some, None, IsTrue, IsSome, MatchOption, is_some, option_map, if◌then◌else◌}
use Rattle.std.specs.Option.{option_or}
use Rattle.std.proofs.lemmas.Bool.{false≢true, and_from}
use Rattle.std.proofs.lemmas.Option.{none-some}
use Rattle.types_core.specs.declared.proposal.Proposal.{Proposal}
use Rattle.types_core.specs.declared.scheme.Scheme.{Ghosts}
use Rattle.messages_certificates.specs.ProposalCertificate.{Notarization, Finalization}
use Rattle.types_terms.specs.declared.elector.Elector as elector
use Rattle.voter_history.specs.Held.{held, IsVerified}
use Rattle.voter_history.specs.Past as past
use Rattle.voter_history.specs.Past.{Item, MayFinalize, MayNotarize, MayPropose, MayVerify}
use Rattle.voter_history.specs.declared.sign.Sign.TheVariants as sign
use Rattle.voter_rounds.specs.Marks.{IsMarkedWithin}
use Rattle.voter_history.specs.Pasts.{bears}
use Rattle.voter_views.specs.declared.views.Views.{Views}
use Rattle.voter_history.specs.History.{Setup, Point, is_marked, seen}
use Rattle.voter_history.specs.Known.{Known, backs, known}
use Rattle.voter_history.specs.Leaders.{leader}
use Rattle.voter_views.specs.Views as views
use Rattle.voter_views.specs.Views.{Keeps}
use Rattle.voter_rules.specs.Ancestry.{Member, member, certificate_payload, has_certificate, held_at}
use Rattle.voter_rules.specs.Ancestry as due
use Rattle.voter_rules.specs.Knowing.{AllowsBuild, AllowsFinalize, AllowsNotarize, AllowsVerify, HasCertificateWithin, HasFailedWithin, IsBacked}
use Rattle.voter_views.specs.ShowsKnown.{Shows, at}

-- what holds of what each history makes known holds of what is shown
pub each : {S L D P G C : Type 0} {g : Ghosts S D P G C} {e : elector.Ghosts L S D P G C} {v : Views S L D P G C} (Q : Member → Known D → Type 0)
    → ((s : Setup S C) (h : List (Point S D P G C)) → Keeps g e s v h → Q (member s) (known s h)) → (m : Member) (k : Known D) → Shows g e v m k → Q m k
each Q holds m k (at s h kept) = holds s h kept

-- what never holds
pub never : {P : Type 0} → ¬ P → IsTrue false ↔ P
never fails = (λ so. absurd (false≢true so), λ there. absurd (fails there))

-- neither of two is so, exactly where both aren't
undecided : (a b : Bool) → (not a && not b) ≡ true → (a ≡ false) × (b ≡ false)
undecided true b never = absurd (cc never)
undecided false true never = absurd (cc never)
undecided false false so = (refl, refl)

-- certificates support one payload, whether it is read of them or of their proposals
payload_of : {N F D : Type 0} (n : N → Proposal D) (f : F → Proposal D) (final : Option F) (o : Option N) (failed : Bool)
    → option_or (option_map (λ c. (f c).payload) final) (if failed then None else option_map (λ c. (n c).payload) o)
    ≡ option_map (λ (p : Proposal D). p.payload) (option_or (option_map f final) (if failed then None else option_map n o))
payload_of n f (Some c) o failed = refl
payload_of n f None o true = refl
payload_of n f None (Some c) false = refl
payload_of n f None None false = refl

-- what is there of a thing is there of what it maps to, and the other way round
some_map : {A B : Type 0} (f : A → B) (o : Option A) → IsSome o → IsSome (option_map f o)
some_map f None never = absurd (cc never)
some_map f (Some a) there = refl

map_some : {A B : Type 0} (f : A → B) (o : Option A) → IsSome (option_map f o) → IsSome o
map_some f None never = absurd (cc never)
map_some f (Some a) there = refl

-- what is there isn't nothing
pub not_there : {A : Type 0} {o p : Option A} → o ≡ p → o ≡ None → ¬ IsSome p
not_there {o = o} {p = p} same none there = absurd (let is : p ≡ None = sym same ∙ none in cc (rw is at there))

-- a thing is there exactly where what it maps to is
there_map : {A B : Type 0} (f : A → B) (o : Option A) → is_some (option_map f o) ≡ is_some o
there_map f None = refl
there_map f (Some a) = refl

-- a verdict is false where it says so
false_verdict : (o : Option Bool) → past.verdict_is_false o ≡ true → o ≡ Some false
false_verdict None never = absurd (cc never)
false_verdict (Some true) never = absurd (cc never)
false_verdict (Some false) so = refl

module _ {S D P G C : Type 0} (s : Setup S C) (h : List (Point S D P G C)) (first end : ℕ) (b : Bool) where
  -- a view that bears a sign is one of which that is known
  pub certificate_within : IsTrue b ↔ IsMarkedWithin (λ u. bears sign.Direct (seen s h u)) first end → IsTrue b ↔ HasCertificateWithin (member s) (known s h) first end
  certificate_within some =
      let same : (u : ℕ) → has_certificate (member s) (known s h) u ≡ bears sign.Direct (seen s h u) =
      λ u. rw (there_map (λ (c : Notarization S D P G C). c.proposal) (past.notarization (seen s h u)), there_map (λ (c : Finalization S D P G C). c.proposal) (past.finalization (seen s h u))) refl in (
        λ yes. let there = some.0 yes in (there.0, there.1, there.2, same there.0 ∙ there.3),
        λ there. some.1 (there.0, there.1, there.2, sym (same there.0) ∙ there.3),
      )

  pub failed_within : IsTrue b ↔ IsMarkedWithin (λ u. bears sign.Failed (seen s h u)) first end → IsTrue b ↔ HasFailedWithin (member s) (known s h) first end
  failed_within some = (
    λ yes. let there = some.0 yes in (there.0, there.1, there.2, false_verdict (past.verdict (seen s h there.0)) there.3),
    λ there. some.1 (there.0, there.1, there.2, rw there.3 refl),
  )

module _ {S D P G C : Type 0} (s : Setup S C) (h : List (Point S D P G C)) (view : ℕ) where
  abbrev x : List (Item S D P G C)
  x = seen s h view

  -- where nothing was seen
  module _ (unseen : x ≡ []) where
    pub unverified : ¬ IsVerified (past.offers x)
    unverified verified = false≢true (rw unseen at verified).0

    pub unheld : (p : Proposal D) → ¬ (held (past.offers x) ≡ Some p)
    unheld p there = none-some p (rw unseen at there)

    pub unnotarized : ¬ IsSome (option_map (λ (c : Notarization S D P G C). c.proposal) (past.notarization x))
    unnotarized there = false≢true (rw unseen at there)

    pub unasked : (missing : ℕ) → ¬ (past.last_asked x ≡ Some missing)
    unasked missing asked = none-some missing (rw unseen at asked)

  pub allows_notarize : (b : Bool) → IsTrue b ↔ MayNotarize x → IsTrue b ↔ AllowsNotarize (member s) (known s h) view
  allows_notarize b may = (
    λ yes. let m = may.0 yes in record { first = m.first; not_given_up = m.not_given_up; verified = m.verified },
    λ a. may.1 (record { first = a.first; not_given_up = a.not_given_up; verified = a.verified }),
  )

  pub allows_finalize : (b : Bool) → IsTrue b ↔ MayFinalize x → IsTrue b ↔ AllowsFinalize (member s) (known s h) view
  allows_finalize b may = (
    λ yes.
        let m = may.0 yes in
        let open_ = undecided (past.has_nullified x) (past.has_finalized x) m.undecided in
        record { not_given_up = open_.0; first = open_.1; unequivocated = m.unequivocated; notarized = some_map (λ (c : Notarization S D P G C). c.proposal) (past.notarization x) m.notarized; certified = m.certified },
    λ a. may.1 (record {
      undecided = and_from (not (past.has_nullified x)) (not (past.has_finalized x)) (ap not a.not_given_up) (ap not a.first);
      unequivocated = a.unequivocated;
      notarized = map_some (λ (c : Notarization S D P G C). c.proposal) (past.notarization x) a.notarized;
      certified = a.certified;
    }),
  )

  pub allows_build : (own : Option ℕ) (b : Bool) → own ≡ s.me → IsTrue b ↔ MayPropose own (leader s h view) x → IsTrue b ↔ AllowsBuild (member s) (known s h) view
  allows_build own b me may = (
    λ yes.
        let m = may.0 yes in
        let known_leader : leader s h view ≡ s.me = sym m.leads.1 ∙ me in
        record { leads = record { some = subst IsSome known_leader m.leads.0; known = known_leader }; not_given_up = m.not_given_up; vacant = m.is_open },
    λ a. may.1 (record { leads = (subst IsSome (sym a.leads.known) a.leads.some, me ∙ sym a.leads.known); not_given_up = a.not_given_up; is_open = a.vacant }),
  )

  pub allows_verify : (own : Option ℕ) (p : Proposal D) → own ≡ s.me → is_marked s backs h view ≡ false → MayVerify own (leader s h view) x → held (past.offers x) ≡ Some p
      → AllowsVerify (member s) (known s h) view p
  allows_verify own p me bare may there = record {
    led = (may.another_leads.0, λ same. may.another_leads.1 (me ∙ sym same));
    not_given_up = may.not_given_up;
    held = there;
    first = may.first;
    not_backed = bare;
  }

  pub may_verify : (own : Option ℕ) (p : Proposal D) → own ≡ s.me → AllowsVerify (member s) (known s h) view p → MayVerify own (leader s h view) x × IsSome (held (past.offers x))
  may_verify own p me a = (
    record { another_leads = (a.led.0, λ same. a.led.1 (sym same ∙ me)); not_given_up = a.not_given_up; first = a.first },
    rw a.held refl,
  )

  pub backed_by : (o : Option (Proposal D)) → o ≡ held (past.offers x) → past.has_notarized x ≡ true → IsVerified (past.offers x)
      → MatchOption o (¬ IsBacked (member s) (known s h) view) (λ p. IsBacked (member s) (known s h) view × (held_at (member s) (known s h) view ≡ Some p))
  backed_by None is voted verified = absurd (not_there is refl verified.0)
  backed_by (Some p) is voted verified = (record { voted = voted; verified = verified }, sym is)

  pub certificate_payload_of : past.certificate_payload x ≡ certificate_payload (member s) (known s h) view
  certificate_payload_of = payload_of (λ (c : Notarization S D P G C). c.proposal) (λ (c : Finalization S D P G C). c.proposal) (past.finalization x) (past.notarization x) (past.verdict_is_false (past.verdict x))

-- the first view that isn't covered is so by what is known too
pub first_uncovered_of : {S D P G C : Type 0} (s : Setup S C) (h : List (Point S D P G C)) (parent view : ℕ) (o : Option ℕ)
    → MatchOption o (views.AreCoveredBetween s h parent view) (λ first. views.IsFirstUncovered s h parent view first)
    → MatchOption o (due.AreCoveredBetween (member s) (known s h) parent view) (λ first. due.IsFirstUncovered (member s) (known s h) parent view first)
first_uncovered_of s h parent view None all = all
first_uncovered_of s h parent view (Some first) is = record { after = is.after; before = is.before; bare = is.bare; least = is.least }
