-- The last own nullify of a list of artifacts, by its place among what they say.
use Rattle.std.proofs.Common.{◌≡◌, ◌∙◌, inl, inr, Bor, ℕ, List, [], ◌∷◌, ◌++◌, length, Option, Some, None, refl, sym, ap, subst}
use Rattle.std.specs.Prelude.{Contains, MatchOption, slice_get}
use Rattle.std.specs.Option.{option_copied}
use Rattle.std.proofs.lemmas.List.{length-map}
use Rattle.types_quorum.specs.Counting.{Contains-cases, Contains-head, Contains-nil, Contains-rest}
use Rattle.types_core.specs.declared.position.Round.{Round}
use Rattle.types_core.specs.Subject.{nullify}
use Rattle.messages_certificates.specs.declared.artifact.Artifact.{Artifact}
use Rattle.messages_certificates.specs.declared.artifact.Artifact.TheVariants as artifact
use Rattle.messages_certificates.specs.declared.nullify.Nullify.{Nullify}
use Rattle.simplex_record.specs.Record.{Entry, voted, entry, entries, HasVoted, IsLastNullify}
use Rattle.simplex_record.specs.CheckerState.{TellsLastNullify}
use Rattle.node_record.specs.Places.{as_nullify, at_place}
use Rattle.node_record.specs.Recorded.{HasNoNullify, IsLastNullifyOf}
use Rattle.node_record.proofs.Placing.{found_behind}

-- what is lent
lent : {X : Type 0} (R : Type 0) (Q : X → Type 0) (r : Option (Bor X)) (x : X) → option_copied r ≡ Some x → Q x → MatchOption r R (λ y. Q y.now)
lent R Q None x is q = absurd (cc is)
lent {X} R Q (Some y) x is q = let same : x ≡ y.now = cc is in subst Q same q

module _ {S D P G C : Type 0} where
  -- the artifacts around one that says an entry
  record Around (xs : List (Artifact S D P G C)) (before after : List (Entry D)) (e : Entry D) : Type 0 where
    front : List (Artifact S D P G C)
    x : Artifact S D P G C
    back : List (Artifact S D P G C)
    is : xs ≡ front ++ x ∷ back
    front_is : entries front ≡ before
    x_is : entry x ≡ e
    back_is : entries back ≡ after

  around : (xs : List (Artifact S D P G C)) (before after : List (Entry D)) (e : Entry D) → entries xs ≡ before ++ e ∷ after → Around xs before after e
  around [] [] after e same = absurd (cc same)
  around [] (b ∷ before) after e same = absurd (cc same)
  around (x ∷ xs) [] after e same = record { front = []; x = x; back = xs; is = refl; front_is = refl; x_is = (cc same); back_is = (cc same) }
  around (x ∷ xs) (b ∷ before) after e same =
      let rest = around xs before after e (cc same) in
      let head : entry x ≡ b = cc same in
      let tail : entries rest.front ≡ before = rest.front_is in
      record {
        front = x ∷ rest.front;
        x = rest.x;
        back = rest.back;
        is = ap (λ (l : List (Artifact S D P G C)). x ∷ l) rest.is;
        front_is = cc (head, tail);
        x_is = rest.x_is;
        back_is = rest.back_is;
      }

  -- what says that a round is given up is an own nullify
  is_nullify : (x : Artifact S D P G C) (r : Round) → entry x ≡ voted (nullify r) → (v : Nullify S D P G C) × (x ≡ artifact.Nullify v)
  is_nullify (artifact.Notarize v) r e = absurd (cc e)
  is_nullify (artifact.Notarization c) r e = absurd (cc e)
  is_nullify (artifact.Certification round ok) r e = absurd (cc e)
  is_nullify (artifact.Nullify v) r e = (v, refl)
  is_nullify (artifact.Nullification c) r e = absurd (cc e)
  is_nullify (artifact.Finalize v) r e = absurd (cc e)
  is_nullify (artifact.Finalization c) r e = absurd (cc e)

  -- what an artifact says that is there is among what they say
  pub says : (xs : List (Artifact S D P G C)) (x : Artifact S D P G C) → Contains xs x → Contains (entries xs) (entry x)
  says [] x there = absurd (Contains-nil x there)
  says (y ∷ xs) x there = elim (Contains-cases y xs x there) [
    | inl is ↦ subst (λ (z : Artifact S D P G C). Contains (entry y ∷ entries xs) (entry z)) is (Contains-head (entry y) (entries xs))
    | inr later ↦ Contains-rest (entry y) (entries xs) (entry x) (says xs x later)
  ]

  pub none_recorded : (xs : List (Artifact S D P G C)) → ((r : Round) → HasVoted (entries xs) (nullify r) → ⊥) → HasNoNullify xs
  none_recorded xs none v there = none v.round (says xs (artifact.Nullify v) there)

  last_at : (xs : List (Artifact S D P G C)) (place : ℕ) → IsLastNullify (entries xs) place → (v : Nullify S D P G C) × IsLastNullifyOf xs v × (slice_get xs place ≡ Some (artifact.Nullify v))
  last_at xs place last =
      let a = around xs last.before last.after (voted (nullify last.round)) last.is in
      let n = is_nullify a.x last.round a.x_is in
      let is : xs ≡ a.front ++ artifact.Nullify n.0 ∷ a.back = a.is ∙ ap (λ (x : Artifact S D P G C). a.front ++ x ∷ a.back) n.1 in
      let at : place ≡ length a.front = last.place_is ∙ ap length (sym a.front_is) ∙ length-map a.front entry in
      let none : HasNoNullify a.back = none_recorded a.back (λ r there. last.last r (subst (λ (es : List (Entry D)). HasVoted es (nullify r)) a.back_is there)) in (
        n.0,
        record { before = a.front; after = a.back; is = is; last = none },
        found_behind xs place (artifact.Nullify n.0) (record { before = a.front; after = a.back; is = is; place_is = at }),
      )

  -- where nothing stands at the place that is told, no own nullify is recorded
  pub last_none : (items xs : List (Artifact S D P G C)) (o : Option ℕ) → items ≡ xs → TellsLastNullify (entries xs) o → None ≡ at_place items o → HasNoNullify xs
  last_none items xs None same told none = none_recorded xs told
  last_none items xs (Some place) same told none =
      let l = last_at xs place told in
      let there : slice_get items place ≡ Some (artifact.Nullify l.0) = subst (λ (ys : List (Artifact S D P G C)). slice_get ys place ≡ Some (artifact.Nullify l.0)) (sym same) l.2 in
      absurd (cc (none, there))

  -- and where something does, it is the last own nullify
  pub last_one : (items xs : List (Artifact S D P G C)) (o : Option ℕ) (x : Artifact S D P G C) (r : Option (Bor (Nullify S D P G C))) → items ≡ xs → TellsLastNullify (entries xs) o → Some x ≡ at_place items o
      → option_copied r ≡ as_nullify x → MatchOption r (HasNoNullify xs) (λ v. IsLastNullifyOf xs v.now)
  last_one items xs None x r same told is copied = absurd (cc is)
  last_one items xs (Some place) x r same told is copied =
      let l = last_at xs place told in
      let there : slice_get items place ≡ Some (artifact.Nullify l.0) = subst (λ (ys : List (Artifact S D P G C)). slice_get ys place ≡ Some (artifact.Nullify l.0)) (sym same) l.2 in
      let own : x ≡ artifact.Nullify l.0 = cc (is, there) in
      lent (HasNoNullify xs) (IsLastNullifyOf xs) r l.0 (copied ∙ ap as_nullify own) l.1
