-- That openings are there: of an empty record, and of each lawful one, at a moment that lies early enough.
use Rattle.std.proofs.Common.{◌≡◌, ◌≢◌, ◌⊎◌, ◌↔◌, inl, inr, ⊎_elim, ℕ, Bool, true, false, List, [], ◌∷◌, ◌++◌, Option, Some, None, refl, sym, ◌∙◌, ap, append_assoc, arith}
use Rattle.std.specs.Prelude.{IsTrue}
use Rattle.std.proofs.lemmas.Bool.{both_ways, cases_eq}
use Rattle.std.proofs.lemmas.List.{append-nil}
use Rattle.types_core.specs.declared.proposal.Proposal.{Proposal}
use Rattle.types_core.specs.declared.scheme.Scheme.{Ghosts}
use Rattle.messages_certificates.specs.declared.artifact.Artifact.{Artifact}
use Rattle.messages_certificates.specs.declared.artifact.Artifact.TheVariants as artifact
use Rattle.simplex_record.specs.Lawful.{IsLawful}
use Rattle.voter_history.specs.Held.{Agrees, held}
use Rattle.voter_history.specs.History.{seen}
use Rattle.voter_history.specs.Past.{Item, offers}
use Rattle.voter_rounds.specs.Rounds.{Takes}
use Rattle.simplex_member.specs.Laws.{IsExact}
use Rattle.simplex_member.specs.Layers.{is_begun, voter_of}
use Rattle.simplex_member.specs.Member.{AreFound, AreOpening, Goes}
use Rattle.simplex_member.specs.Packet.{Formats}
use Rattle.simplex_member.specs.Point.{Point, Opened, Found, Began, History}
use Rattle.simplex_member.specs.Recorded.{kept_of, record_of}
use Rattle.simplex_member.specs.Setup.{Setup, IsInTime, owner_of}

abbrev is_there : {X : Type 0} → List X → Bool
is_there [] = false
is_there (x ∷ xs) = true

cons-some : {X : Type 0} (x : X) (xs : List X) → (x ∷ xs ≡ [] → ⊥)
cons-some x xs e = both_ways true (ap is_there e) refl

module _ {S D P G C : Type 0} (g : Ghosts S D P G C) (f : Formats S D P G C) (s : Setup S D C) where
  -- an empty record is gone through at once
  pub empty-goes : (now : ℕ) → IsInTime s now → Goes g f s [] (Opened now ∷ Began ∷ []) (Began ∷ Opened now ∷ [])
  empty-goes now early = (
    record { order = refl; due = early; fits = tt; readable = tt },
    (record { order = (cons-some (Opened now) [], refl); due = tt; fits = tt; readable = tt }, refl),
  )

  pub empty-opening : (now : ℕ) → AreOpening g f s now [] (Opened now ∷ Began ∷ [])
  empty-opening now = record { read = []; acts = []; split = refl; are = tt; own = λ k d l. absurd (omega (arith, l)) }

-- ---- a lawful record

module _ {D : Type 0} (same : D → D → Bool) (exact : (x y : D) → IsTrue (same x y) ↔ (x ≡ y)) where
  same-payload : (x y : D) → (b : Bool) → same x y ≡ b → (x ≡ y) ⊎ (x ≢ y)
  same-payload x y true is = inl ((exact x y).0 is)
  same-payload x y false is = inr (λ e. both_ways (same x y) is ((exact x y).1 e))

  same-proposal : (p q : Proposal D) → (p ≡ q) ⊎ (p ≢ q)
  same-proposal p q = by (cases_eq p.round.epoch q.round.epoch) (cases_eq p.round.view q.round.view) (cases_eq p.parent q.parent) (same-payload p.payload q.payload (same p.payload q.payload) refl)
    where
      by : (p.round.epoch ≡ q.round.epoch) ⊎ (p.round.epoch ≢ q.round.epoch) → (p.round.view ≡ q.round.view) ⊎ (p.round.view ≢ q.round.view)
          → (p.parent ≡ q.parent) ⊎ (p.parent ≢ q.parent) → (p.payload ≡ q.payload) ⊎ (p.payload ≢ q.payload) → (p ≡ q) ⊎ (p ≢ q)
      by (inl epoch) (inl view) (inl parent) (inl payload) = inl (λ i. record { round = record { epoch = epoch i; view = view i }; parent = parent i; payload = payload i })
      by (inr apart) view parent payload = inr (λ e. apart (ap (λ (x : Proposal D). x.round.epoch) e))
      by (inl epoch) (inr apart) parent payload = inr (λ e. apart (ap (λ (x : Proposal D). x.round.view) e))
      by (inl epoch) (inl view) (inr apart) payload = inr (λ e. apart (ap (λ (x : Proposal D). x.parent) e))
      by (inl epoch) (inl view) (inl parent) (inr apart) = inr (λ e. apart (ap (λ (x : Proposal D). x.payload) e))

  -- whether a view takes a proposal
  agrees-or : (o : Option (Proposal D)) (p : Proposal D) → (b : Bool) × (IsTrue b ↔ Agrees o p)
  agrees-or None p = (true, (λ yes. tt, λ yes. refl))
  agrees-or (Some q) p = ⊎_elim
      (λ one. (true, (λ yes. one, λ yes. refl)))
      (λ apart. (false, (λ yes. absurd (both_ways false refl yes), λ is. absurd (apart is))))
      (same-proposal q p)

  module _ {S P G C : Type 0} where
    -- of each artifact its view takes its proposal or not
    taken-or : (t : ℕ → List (Item S D P G C)) (x : Artifact S D P G C) → (taken : Bool) × Takes t x taken
    taken-or t (artifact.Notarize v) = agrees-or (held (offers (t v.proposal.round.view))) v.proposal
    taken-or t (artifact.Notarization c) = (false, tt)
    taken-or t (artifact.Certification r ok) = (false, tt)
    taken-or t (artifact.Nullify v) = (false, tt)
    taken-or t (artifact.Nullification c) = (false, tt)
    taken-or t (artifact.Finalize v) = (false, tt)
    taken-or t (artifact.Finalization c) = (false, tt)

module _ {S D P G C : Type 0} (g : Ghosts S D P G C) (f : Formats S D P G C) (s : Setup S D C) (exact : IsExact f) (found : List (Artifact S D P G C))
    (lawful : IsLawful (g.attests s.voter.scheme) (g.certifies s.voter.scheme) (owner_of s) found) where
  -- what is left of the record is gone through
  record ReadsOn (h : History S D P G C) (rest : List (Artifact S D P G C)) : Type 0 where
    points : List (Point S D P G C)
    end : History S D P G C
    are : AreFound rest points
    goes : Goes g f s h (points ++ Began ∷ []) end
    kept : kept_of s.voter.length end ≡ found

  reads-on : (h : History S D P G C) (rest : List (Artifact S D P G C)) → found ≡ record_of h ++ rest → kept_of s.voter.length h ≡ record_of h → h ≢ [] → is_begun h ≡ false → ReadsOn h rest
  reads-on h [] is kept some unbegun = record {
    points = [];
    end = Began ∷ h;
    are = tt;
    goes = (record { order = (some, unbegun); due = tt; fits = tt; readable = tt }, refl);
    kept = kept ∙ (sym (append-nil (record_of h)) ∙ sym is);
  }
  reads-on h (x ∷ rest) is kept some unbegun =
      let t = taken-or f.same exact (seen s.voter (voter_of s h)) x in
      let next = reads-on (Found x t.0 ∷ h) rest (is ∙ sym (append_assoc (record_of h) (x ∷ []) rest)) (ap (λ (xs : List (Artifact S D P G C)). xs ++ x ∷ []) kept) (cons-some (Found x t.0) h) unbegun in
      record {
        points = Found x t.0 ∷ next.points;
        end = next.end;
        are = (refl, next.are);
        goes = (record { order = (some, unbegun); due = t.1; fits = lawful (record_of h) rest x is; readable = tt }, next.goes);
        kept = next.kept;
      }

  -- so an opening goes through all of it
  pub lawful-opened : (now : ℕ) → IsInTime s now → (points : List (Point S D P G C)) × (end : History S D P G C) × AreOpening g f s now found points × Goes g f s [] points end × (kept_of s.voter.length end ≡ found)
  lawful-opened now early =
      let all = reads-on (Opened now ∷ []) found refl refl (cons-some (Opened now) []) refl in (
        Opened now ∷ all.points ++ Began ∷ [],
        all.end,
        record { read = all.points; acts = []; split = refl; are = all.are; own = λ k d l. absurd (omega (arith, l)) },
        (record { order = refl; due = early; fits = tt; readable = tt }, all.goes),
        all.kept,
      )
