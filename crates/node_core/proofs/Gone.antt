-- A record that is gone through: its points, and what they hand out.
use Rattle.std.proofs.Common.{◌≡◌, ◌≢◌, ◌++◌, ◌∷◌, ◌∙◌, ℕ, Bool, false, List, [], refl, sym, ap, subst, append_assoc, arith}
use Rattle.std.proofs.lemmas.List.{append-nil}
use Rattle.types_core.specs.declared.scheme.Scheme.{Ghosts}
use Rattle.messages_certificates.specs.declared.artifact.Artifact.{Artifact}
use Rattle.simplex_member.specs.declared.action.Action.{Action}
use Rattle.simplex_member.specs.Allowed.{Allowed, AreAllowed}
use Rattle.simplex_member.specs.Deeds.{Deed, AreActions, all_deeds, deeds_of}
use Rattle.simplex_member.specs.Layers.{is_begun, latest}
use Rattle.simplex_member.specs.Member.{AreFound, Goes}
use Rattle.simplex_member.specs.Packet.{Formats}
use Rattle.simplex_member.specs.Point.{Point, Opened, Found, Began, History}
use Rattle.simplex_member.specs.Recorded.{kept_of, record_of}
use Rattle.simplex_member.specs.Setup.{Setup}
use Rattle.node_core.proofs.Going.{goes_on}
use Rattle.node_core.specs.GoingThrough.{IsReading, Opens, deeds_along}

module _ {S D P G C : Type 0} where
  pub reading-some : (now : ℕ) (h : History S D P G C) → IsReading now h → h ≢ []
  reading-some now [] is none = is
  reading-some now (p ∷ h) is none = absurd (cc none)

  pub reading-unbegun : (now : ℕ) (h : History S D P G C) → IsReading now h → is_begun h ≡ false
  reading-unbegun now [] is = refl
  reading-unbegun now (Opened t ∷ []) is = refl
  reading-unbegun now (Opened t ∷ p ∷ h) is = absurd is
  reading-unbegun now (Found x taken ∷ h) is = reading-unbegun now h is
  reading-unbegun now (p ∷ h) is = absurd is

  -- nothing is rewritten meanwhile
  pub reading-kept : (views now : ℕ) (h : History S D P G C) → IsReading now h → kept_of views h ≡ record_of h
  reading-kept views now [] is = refl
  reading-kept views now (Opened t ∷ []) is = refl
  reading-kept views now (Opened t ∷ p ∷ h) is = absurd is
  reading-kept views now (Found x taken ∷ h) is = ap (λ (xs : List (Artifact S D P G C)). xs ++ x ∷ []) (reading-kept views now h is)
  reading-kept views now (p ∷ h) is = absurd is

  pub reading-moment : (now : ℕ) (h : History S D P G C) → IsReading now h → latest h ≡ now
  reading-moment now [] is = absurd is
  reading-moment now (Opened t ∷ []) is = is
  reading-moment now (Opened t ∷ p ∷ h) is = absurd is
  reading-moment now (Found x taken ∷ h) is = reading-moment now h is
  reading-moment now (p ∷ h) is = absurd is

  -- one artifact more is found
  pub found-more : (xs : List (Artifact S D P G C)) (points : List (Point S D P G C)) (x : Artifact S D P G C) (taken : Bool) → AreFound xs points → AreFound (xs ++ x ∷ []) (points ++ Found x taken ∷ [])
  found-more [] [] x taken are = (refl, tt)
  found-more (y ∷ xs) (Found z t ∷ points) x taken are = (are.0, found-more xs points x taken are.1)
  found-more (y ∷ xs) [] x taken are = absurd are
  found-more [] (p ∷ points) x taken are = absurd are
  found-more (y ∷ xs) (p ∷ points) x taken are = absurd are

module _ {S D P G C : Type 0} (g : Ghosts S D P G C) (f : Formats S D P G C) (s : Setup S D C) where
  pub deeds-more : (h mid : History S D P G C) (points : List (Point S D P G C)) (p : Point S D P G C) → Goes g f s h points mid → all_deeds g f s h (points ++ p ∷ []) ≡ all_deeds g f s h points ++ deeds_of g f s mid p
  deeds-more h mid [] p goes = append-nil (deeds_of g f s h p) ∙ ap (λ (x : History S D P G C). deeds_of g f s x p) (sym goes)
  deeds-more h mid (q ∷ points) p goes =
      ap (λ (ds : List (Deed S D P G C)). deeds_of g f s h q ++ ds) (deeds-more (q ∷ h) mid points p goes.1)
      ∙ sym (append_assoc (deeds_of g f s h q) (all_deeds g f s (q ∷ h) points) (deeds_of g f s mid p))

  -- the points of what was gone through so far, from the opening on
  pub record AreGone (now : ℕ) (h : History S D P G C) : Type 0 where
    pub read : List (Point S D P G C)
    pub are : AreFound (record_of h) read
    pub goes : Goes g f s [] (Opened now ∷ read) h
    pub deeds : all_deeds g f s [] (Opened now ∷ read) ≡ deeds_along g f s h

  pub gone : (now : ℕ) (h : History S D P G C) → IsReading now h → AreAllowed g f s h → AreGone now h
  gone now [] is all = absurd is
  gone now (Opened t ∷ []) is all = record {
    read = [];
    are = tt;
    goes = (subst (λ (u : ℕ). Allowed g f s [] (Opened u)) is all.0, ap (λ (u : ℕ). Opened u ∷ []) is);
    deeds = refl;
  }
  gone now (Opened t ∷ p ∷ h) is all = absurd is
  gone now (Found x taken ∷ h) is all =
      let before = gone now h is all.1 in
      record {
        read = before.read ++ Found x taken ∷ [];
        are = found-more (record_of h) before.read x taken before.are;
        goes = goes_on g f s [] h (Opened now ∷ before.read) (Found x taken) before.goes all.0;
        deeds = deeds-more [] h (Opened now ∷ before.read) (Found x taken) before.goes ∙ ap (λ (ds : List (Deed S D P G C)). ds ++ deeds_of g f s h (Found x taken)) before.deeds;
      }
  gone now (p ∷ h) is all = absurd is

  -- the end of the record may come at any time, as far as this is asked
  pub began-allowed : (now : ℕ) (h : History S D P G C) → IsReading now h → Allowed g f s h Began
  began-allowed now h is = record { order = (reading-some now h is, reading-unbegun now h is); due = tt; fits = tt; readable = tt }

  -- behind its end that is an opening
  pub opens-behind : (now : ℕ) (h : History S D P G C) (found : List (Artifact S D P G C)) (actions : List (Action S D P G C)) → IsReading now h → AreAllowed g f s h → record_of h ≡ found
      → AreActions f actions (deeds_along g f s (Began ∷ h)) → Opens g f s now found actions (Began ∷ h)
  opens-behind now h found actions is all whole are =
      let before = gone now h is all in
      let deeds : all_deeds g f s [] ((Opened now ∷ before.read) ++ Began ∷ []) ≡ deeds_along g f s (Began ∷ h) =
      deeds-more [] h (Opened now ∷ before.read) Began before.goes ∙ ap (λ (ds : List (Deed S D P G C)). ds ++ deeds_of g f s h Began) before.deeds in
      record {
        points = (Opened now ∷ before.read) ++ Began ∷ [];
        opening = record {
          read = before.read;
          acts = [];
          split = refl;
          are = subst (λ (xs : List (Artifact S D P G C)). AreFound xs before.read) whole before.are;
          own = λ k d below. absurd (omega (arith, below));
        };
        goes = goes_on g f s [] h (Opened now ∷ before.read) Began before.goes (began-allowed now h is);
        done = refl;
        hands_out = subst (λ (ds : List (Deed S D P G C)). AreActions f actions ds) (sym deeds) are;
      }
