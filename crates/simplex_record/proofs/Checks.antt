-- A record is checked artifact by artifact.
use Rattle.std.proofs.Common.{◌≡◌, ◌⊎◌, inl, inr, ⊎_elim, ℕ, zero, suc, ◌+◌, ◌-◌, ◌<◌, ◌^◌, List, [], ◌∷◌, ◌++◌, length, get_or, drop, refl, sym, ◌∙◌, ap, subst, arith, append_assoc, length-append}
use Rattle.std.proofs.lemmas.List.{append-nil, map-append}
use Rattle.types_core.specs.declared.position.Round.{Round}
use Rattle.types_core.specs.Positions.{HasRoom}
use Rattle.types_core.specs.Subject.{Statement, notarize, nullify, finalize}
use Rattle.messages_certificates.specs.declared.artifact.Artifact.{Artifact}
use Rattle.simplex_record.specs.declared.certificates.Certificates.{Certificates}
use Rattle.simplex_record.specs.declared.owner.Owner.{Owner}
use Rattle.simplex_record.specs.declared.standing.Standing.{Standing}
use Rattle.simplex_record.specs.Record.{Entry, voted, taken, judged, entry, entries}
use Rattle.simplex_record.specs.Rules.{MayFollow, MayJudge, LeavesRoom}
use Rattle.simplex_record.specs.Lawful.{Fits, IsLawful, IsRefusedAt}
use Rattle.simplex_record.specs.CheckerState.{Keeps, KeepsCertificates}
use Rattle.types_terms.specs.Spans.{term_end-le}

-- a view with room isn't the last
pub room-next : (views view : ℕ) → 0 < views → HasRoom views view → view + 1 < 2 ^ 64
room-next views zero some room = omega arith
room-next views (suc v) some room = omega (arith, room, (term_end-le views v v some).1 (omega arith))

module _ {X : Type 0} where
  -- what stands at a place of a list with one more element stands there before, or is that element
  pub record IsPushed (xs : List X) (x : X) (before : List X) (y : X) : Type 0 where
    pub before_is : before ≡ xs
    pub is : y ≡ x

  pub last_or_earlier : (xs : List X) (x : X) (before after : List X) (y : X) → xs ++ x ∷ [] ≡ before ++ y ∷ after → IsPushed xs x before y ⊎ ((rest : List X) × (xs ≡ before ++ y ∷ rest))
  last_or_earlier [] x [] after y same = inl (record { before_is = refl; is = sym (ap (λ (l : List X). get_or l 0 x) same) })
  last_or_earlier [] x (b ∷ before) after y same = absurd (omega (arith, ap length same, length-append before (y ∷ after)))
  last_or_earlier (z ∷ xs) x [] after y same = inr (xs, ap (λ (w : X). w ∷ xs) (ap (λ (l : List X). get_or l 0 z) same))
  last_or_earlier (z ∷ xs) x (b ∷ before) after y same =
      let first : z ≡ b = ap (λ (l : List X). get_or l 0 z) same in
      ⊎_elim
      (λ last. inl (record { before_is = (λ i. sym first i ∷ last.before_is i); is = last.is }))
      (λ earlier. inr (earlier.0, λ i. first i ∷ earlier.1 i))
      (last_or_earlier xs x before after y (ap (λ (l : List X). drop 1 l) same))

module _ {D : Type 0} where
  -- a round that may be judged has room
  pub judged_room : (views : ℕ) (certificates : Certificates D) (before : List (Entry D)) → KeepsCertificates views certificates before → (r : Round) → MayJudge before r → HasRoom views r.view
  judged_room views certificates before keeps r may =
      let p = may.notarized in
      subst (λ (t : Round). HasRoom views t.view) p.1 (keeps.room (notarize p.0) p.2)

  -- what may follow has room
  pub follows_room : (views : ℕ) (standing : Standing D) (before : List (Entry D)) → Keeps views standing before → (e : Entry D) → MayFollow views before e → LeavesRoom views e
  follows_room views standing before keeps (voted (notarize p)) may = may.room
  follows_room views standing before keeps (voted (nullify r)) may = may.room
  follows_room views standing before keeps (voted (finalize p)) may = keeps.by_view.certificates.room (notarize p) may.notarized
  follows_room views standing before keeps (taken s) may = may.room
  follows_room views standing before keeps (judged r verdict) may = judged_room views standing.certificates before keeps.by_view.certificates r may

module _ {S D P G C : Type 0} {attests : ℕ → Statement D → G → Type 0} {certifies : Statement D → C → Type 0} {owner : Owner} where
  -- an empty record is lawful
  pub lawful-nil : IsLawful {S = S} {P = P} attests certifies owner []
  lawful-nil [] after x is = absurd (omega (arith, ap length is))
  lawful-nil (b ∷ before) after x is = absurd (omega (arith, ap length is))

  -- and so is a lawful one with one more artifact that may stand behind it
  pub lawful-push : (artifacts : List (Artifact S D P G C)) (x : Artifact S D P G C) → IsLawful attests certifies owner artifacts → Fits attests certifies owner artifacts x → IsLawful attests certifies owner (artifacts ++ x ∷ [])
  lawful-push artifacts x lawful fits before after y is = ⊎_elim
      (λ last. subst (λ (l : List (Artifact S D P G C)). Fits attests certifies owner l y) (sym last.before_is) (subst (λ (z : Artifact S D P G C). Fits attests certifies owner artifacts z) (sym last.is) fits))
      (λ earlier. lawful before earlier.0 y earlier.1)
      (last_or_earlier artifacts x before after y is)

-- the artifacts so far are the first of the record, and lawful, and what is kept is what they tell
pub record IsChecked {S D P G C : Type 0} (attests : ℕ → Statement D → G → Type 0) (certifies : Statement D → C → Type 0) (owner : Owner) (artifacts rest : List (Artifact S D P G C)) (standing : Standing D) : Type 0 where
  pub before : List (Artifact S D P G C)
  pub is : artifacts ≡ before ++ rest
  pub lawful : IsLawful attests certifies owner before
  pub keeps : Keeps owner.term_length standing (entries before)

module _ {S D P G C : Type 0} {attests : ℕ → Statement D → G → Type 0} {certifies : Statement D → C → Type 0} {owner : Owner} where
  -- at first nothing has been checked
  pub checked_first : (artifacts : List (Artifact S D P G C)) (standing : Standing D) → Keeps owner.term_length standing [] → IsChecked attests certifies owner artifacts artifacts standing
  checked_first artifacts standing keeps = record { before = []; is = refl; lawful = lawful-nil; keeps = keeps }

  -- one artifact more, which may stand there
  pub checked_next : (artifacts : List (Artifact S D P G C)) (x : Artifact S D P G C) (rest : List (Artifact S D P G C)) (standing next : Standing D) (so_far : IsChecked attests certifies owner artifacts (x ∷ rest) standing)
      → Fits attests certifies owner so_far.before x → Keeps owner.term_length next (entries so_far.before ++ entry x ∷ []) → IsChecked attests certifies owner artifacts rest next
  checked_next artifacts x rest standing next so_far fits keeps = record {
    before = so_far.before ++ x ∷ [];
    is = so_far.is ∙ sym (append_assoc so_far.before (x ∷ []) rest);
    lawful = lawful-push so_far.before x so_far.lawful fits;
    keeps = subst (λ (es : List (Entry D)). Keeps owner.term_length next es) (sym (map-append entry so_far.before (x ∷ []))) keeps;
  }

  -- one that may not
  pub refused_here : (artifacts : List (Artifact S D P G C)) (x : Artifact S D P G C) (rest : List (Artifact S D P G C)) (standing : Standing D) (so_far : IsChecked attests certifies owner artifacts (x ∷ rest) standing) (position : ℕ)
      → position ≡ length artifacts - length (x ∷ rest) → (Fits attests certifies owner so_far.before x → ⊥) → IsRefusedAt attests certifies owner artifacts position
  refused_here artifacts x rest standing so_far position place refused = record {
    before = so_far.before;
    x = x;
    after = rest;
    is = so_far.is;
    position_is = omega (arith, place, ap length so_far.is, length-append so_far.before (x ∷ rest));
    lawful = so_far.lawful;
    refused = refused;
  }

  -- and when nothing is left, all of it is lawful
  pub checked_all : (artifacts : List (Artifact S D P G C)) (standing : Standing D) → IsChecked attests certifies owner artifacts [] standing → IsLawful attests certifies owner artifacts
  checked_all artifacts standing so_far = subst (IsLawful attests certifies owner) (sym (so_far.is ∙ append-nil so_far.before)) so_far.lawful

  -- and kept
  pub kept_all : (artifacts : List (Artifact S D P G C)) (standing : Standing D) → IsChecked attests certifies owner artifacts [] standing → Keeps owner.term_length standing (entries artifacts)
  kept_all artifacts standing so_far = subst (λ (l : List (Artifact S D P G C)). Keeps owner.term_length standing (entries l)) (sym (so_far.is ∙ append-nil so_far.before)) so_far.keeps
