-- What stands of all views where something happens to one that leaves no sign.
use Rattle.std.proofs.Common.{◌≡◌, ◌∙◌, ℕ, List, ◌∷◌, Bool, true, false, refl, sym, ap, if◌then◌else◌}
use Rattle.std.specs.Prelude.{Option, Some, None}
use Rattle.types_core.specs.declared.position.Round.{Round}
use Rattle.types_core.specs.declared.proposal.Proposal.{Proposal}
use Rattle.types_core.specs.declared.scheme.Scheme.{Ghosts}
use Rattle.messages_certificates.specs.declared.artifact.Artifact.{Artifact}
use Rattle.messages_certificates.specs.declared.artifact.Artifact.TheVariants as artifact
use Rattle.messages_certificates.specs.declared.nullify.Nullify.{Nullify}
use Rattle.voter_history.specs.Held as offer
use Rattle.voter_history.specs.Past as past
use Rattle.voter_history.specs.Past.{Item}
use Rattle.voter_rounds.specs.declared.marks.Marks.{Marks}
use Rattle.voter_rounds.specs.declared.notice.Notice.{Notice}
use Rattle.voter_rounds.specs.declared.notice.Notice.TheVariants as notice
use Rattle.voter_rounds.specs.declared.rounds.Rounds.{Rounds}
use Rattle.voter_history.specs.declared.sign.Sign.TheVariants as sign
use Rattle.voter_rounds.specs.declared.tracked.Tracked.{Tracked}
use Rattle.voter_rounds.specs.Laws.{put-fact}
use Rattle.voter_rounds.specs.Marks.{Shows}
use Rattle.voter_history.specs.Pasts.{bears, bind, put}
use Rattle.voter_rounds.specs.Rounds.{Keep, recalled, told}
use Rattle.voter_rounds.specs.Tracked.{Frame, Tables, AreShown, IsKept}

module _ {S D P G C : Type 0} where
  -- all signs of a view
  abbrev signs : List (Item S D P G C) → Bool × Bool × Bool × Bool
  signs l = (bears sign.Direct l, bears sign.Certified l, bears sign.Failed l, bears sign.GivenUp l)

  -- views bear the signs now that they bore
  pub record IsPlain (grown past : ℕ → List (Item S D P G C)) : Type 0 where
    pub same : (u : ℕ) → signs (grown u) ≡ signs (past u)

  pub still-plain : (past : ℕ → List (Item S D P G C)) → IsPlain past past
  still-plain past = record { same = λ u. refl }

  -- so it is behind an item that leaves no sign
  pub put-plain : {grown past : ℕ → List (Item S D P G C)} (view : ℕ) (x : Item S D P G C) → ((l : List (Item S D P G C)) → signs (x ∷ l) ≡ signs l)
      → IsPlain grown past → IsPlain (put view x grown) past
  put-plain {grown = grown} view x same plain = record { same = λ u. put-fact signs x same view grown u ∙ plain.same u }

  -- or where one of two things happened
  pub either-plain : {grown other past : ℕ → List (Item S D P G C)} (b : Bool) → IsPlain grown past → IsPlain other past → IsPlain (if b then grown else other) past
  either-plain true one two = one
  either-plain false one two = two

  -- a notice leaves none
  pub told-plain : (n : Notice) (l : List (Item S D P G C)) → signs (told n ∷ l) ≡ signs l
  told-plain notice.Unbound l = refl
  told-plain notice.BuildReleased l = refl
  told-plain (notice.AncestryAsked missing) l = refl
  told-plain (notice.CertifyAsked handle) l = refl

  -- nor does what a record recalls, but for a verdict and a nullify
  pub recalled-plain : (taken : Bool) (a : Artifact S D P G C) (t : ℕ → List (Item S D P G C))
      → ((r : Round) (ok : Bool) → ¬ (a ≡ artifact.Certification r ok)) → ((v : Nullify S D P G C) → ¬ (a ≡ artifact.Nullify v)) → IsPlain (recalled taken a t) t
  recalled-plain taken (artifact.Notarize v) t _ _ = put-plain v.proposal.round.view past.voted_notarize (λ l. refl)
      (either-plain taken (put-plain v.proposal.round.view (past.offered (offer.recorded v.proposal)) (λ l. refl) (still-plain t)) (still-plain t))
  recalled-plain taken (artifact.Notarization c) t _ _ = put-plain c.proposal.round.view past.sent_notarization (λ l. refl) (still-plain t)
  recalled-plain taken (artifact.Certification round ok) t never _ = absurd (never round ok refl)
  recalled-plain taken (artifact.Nullify v) t _ never = absurd (never v refl)
  recalled-plain taken (artifact.Nullification c) t _ _ = put-plain c.round.view past.sent_nullification (λ l. refl) (still-plain t)
  recalled-plain taken (artifact.Finalize v) t _ _ = put-plain v.proposal.round.view past.voted_finalize (λ l. refl) (still-plain t)
  recalled-plain taken (artifact.Finalization c) t _ _ = put-plain c.proposal.round.view past.sent_finalization (λ l. refl) (still-plain t)

  -- nor does what a proposal is bound to
  pub bound-plain : (payload : Option D) (p : Proposal D) (t : ℕ → List (Item S D P G C)) → IsPlain (bind payload p t) t
  bound-plain None p t = still-plain t
  bound-plain (Some payload) p t = put-plain p.round.view (past.bound p payload) (λ l. refl) (still-plain t)

  -- the marks show what they showed
  pub plain-shown : {d c f g : Marks} {grown past : ℕ → List (Item S D P G C)} → AreShown d c f g past → IsPlain grown past → AreShown d c f g grown
  unfolding Shows
  plain-shown shown plain = record {
    direct = λ u. shown.direct u ∙ sym (ap (λ (b : Bool × Bool × Bool × Bool). b.0) (plain.same u));
    certified = λ u. shown.certified u ∙ sym (ap (λ (b : Bool × Bool × Bool × Bool). b.1) (plain.same u));
    failed = λ u. shown.failed u ∙ sym (ap (λ (b : Bool × Bool × Bool × Bool). b.2) (plain.same u));
    given_up = λ u. shown.given_up u ∙ sym (ap (λ (b : Bool × Bool × Bool × Bool). b.3) (plain.same u));
  }

  module _ {g : Ghosts S D P G C} {f : Frame S} {x : Tracked S D P G C} {t : Tables S D P G C} {r : Rounds S D P G C} {grown : ℕ → List (Item S D P G C)} where
    -- who leads and which views bear which sign stands as it did
    pub plain-kept : IsKept g f x t → Keep g.key_of f.common r t.led grown → IsPlain grown t.past → IsKept g f (record x { rounds = r }) (record t { past = grown })
    plain-kept k kept plain = record {
      length = k.length;
      optimistic_views = k.optimistic_views;
      rounds = kept;
      signs = plain-shown k.signs plain;
      noted = k.noted;
      members = k.members;
    }
