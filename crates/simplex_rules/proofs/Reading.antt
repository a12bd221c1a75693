-- One more report read.
use Rattle.std.proofs.Common.{◌≡◌, ◌<◌, ◌⊎◌, ℕ, List, [], ◌∷◌, ◌++◌, length, length-append, refl, sym, ap, ◌∙◌, append_assoc, arith, inl, inr, subst}
use Rattle.std.specs.Prelude.{◌≢◌, ◌+◌, Option, Some, None, MatchOption, All, Bool, true, false, Result, Ok, Err, IfOk, IsErr, MatchBool}
use Rattle.std.specs.List.{flat_map}
use Rattle.std.proofs.lemmas.List.{append-nil}
use Rattle.std.proofs.lemmas.List.Concat.{flat_map-append}
use Rattle.std.proofs.lemmas.List.Elements.{All-nil, All-cons, All-append, All-head, All-tail}
use Rattle.types_codec.specs.declared.codec.CodecError.{CodecError}
use Rattle.types_codec.specs.declared.codec.CodecError.TheVariants.{End, Invalid, TooLong, Memory}
use Rattle.types_codec.specs.Codec.{IsCodec, Gives}
use Rattle.simplex_messages.specs.declared.activity.Activity.{Activity}
use Rattle.simplex_messages.specs.Activity.{activity_spelling}
use Rattle.simplex_rules.specs.Audit.{IsRead}
use Rattle.simplex_rules.specs.Counted.{CountsSoFar, CountsOne, CountsRead}

-- what was read can be read again
pub IfOk-fits : {A : Type 0} {Fits : A → Type 0} {spelling : A → List ℕ} {reading : List ℕ → Result (A × List ℕ) CodecError} → IsCodec Fits spelling reading → (old new : List ℕ) (r : Result A CodecError) → Gives reading old new r → IfOk r Fits
IfOk-fits codec old new (Ok x) gives = (codec.takes old x new gives).1
IfOk-fits codec old new (Err e) gives = tt

module _ {S D P G C T : Type 0} {Holds : List (Activity S D P G C) → T → Type 0} {Fits : Activity S D P G C → Type 0} (spelling : Activity S D P G C → List ℕ) where
  pub counts_none : (bytes : List ℕ) (tally : T) → Holds [] tally → CountsSoFar Holds Fits spelling bytes bytes tally
  counts_none bytes tally h = record { reports = []; fitting = All-nil Fits; whole = refl; holds = h }

  pub counts_more : (bytes rest after : List ℕ) (old new : T) → CountsSoFar Holds Fits spelling bytes rest old → CountsOne Holds Fits spelling rest after old new → CountsSoFar Holds Fits spelling bytes after new
  counts_more bytes rest after old new s one =
      let spelled : flat_map spelling (one.report ∷ []) ≡ spelling one.report = append-nil (spelling one.report) in
      let spellings : flat_map spelling (s.reports ++ one.report ∷ []) ≡ flat_map spelling s.reports ++ spelling one.report = flat_map-append spelling s.reports (one.report ∷ []) ∙ ap (λ (bs : List ℕ). flat_map spelling s.reports ++ bs) spelled in
      record {
        reports = s.reports ++ one.report ∷ [];
        fitting = All-append Fits s.reports (one.report ∷ []) s.fitting (All-cons Fits one.report [] one.fits (All-nil Fits));
        whole = s.whole ∙ ap (λ (bs : List ℕ). flat_map spelling s.reports ++ bs) one.whole ∙ sym (append_assoc (flat_map spelling s.reports) (spelling one.report) after) ∙ ap (λ (bs : List ℕ). bs ++ after) (sym spellings);
        holds = one.counted s.reports s.holds;
      }

module _ {S D P G C T : Type 0} (Holds : List (Activity S D P G C) → T → Type 0) (Fits : Activity S D P G C → Type 0) (spelling : Activity S D P G C → List ℕ) where
  -- what a reader answered, and whether it was counted
  pub counts_next : (reading : List ℕ → Result (Activity S D P G C × List ℕ) CodecError) (rest after : List ℕ) (old new : T) (r : Result (Activity S D P G C) CodecError) (counted : Bool)
      → Gives reading rest after r → IfOk r Fits → IfOk r (λ report. rest ≡ spelling report ++ after) → CountsRead Holds r old new counted
      → MatchBool counted (CountsOne Holds Fits spelling rest after old new) (IsErr (reading rest) × (after ≡ rest) × (new ≡ old))
  counts_next reading rest after old new (Ok report) counted gives fits spelled c = rw c.0 (record { report = report; fits = fits; whole = spelled; counted = c.1 })
  counts_next reading rest after old new (Err End) counted gives fits spelled c = rw c.0 ((rw gives.0 refl), gives.1, c.2)
  counts_next reading rest after old new (Err Invalid) counted gives fits spelled c = rw c.0 ((rw gives.0 refl), gives.1, c.2)
  counts_next reading rest after old new (Err TooLong) counted gives fits spelled c = rw c.0 ((rw gives.0 refl), gives.1, c.2)
  counts_next reading rest after old new (Err Memory) counted gives fits spelled c = absurd (c.1 refl)

  -- the same of an answer that may be a refusal
  pub IfOk-counts_next : {E : Type 0} (reading : List ℕ → Result (Activity S D P G C × List ℕ) CodecError) (rest after : List ℕ) (old new : T) (r : Result (Activity S D P G C) CodecError) (answer : Result Bool E)
      → Gives reading rest after r → IfOk r Fits → IfOk r (λ report. rest ≡ spelling report ++ after) → IfOk answer (CountsRead Holds r old new)
      → IfOk answer (λ counted. MatchBool counted (CountsOne Holds Fits spelling rest after old new) (IsErr (reading rest) × (after ≡ rest) × (new ≡ old)))
  IfOk-counts_next reading rest after old new r (Ok counted) gives fits spelled c = counts_next reading rest after old new r counted gives fits spelled c
  IfOk-counts_next reading rest after old new r (Err e) gives fits spelled c = tt

module _ {S D P G C : Type 0} where
  -- a report takes a byte at least
  pub shorter : (p : D → List ℕ) (f : G → List ℕ) (g : C → List ℕ) (report : Activity S D P G C) (rest after : List ℕ) → rest ≡ activity_spelling p f g report ++ after → length after < length rest
  unfolding activity_spelling
  shorter p f g report rest after spelled = omega (arith, ap length spelled, length-append (activity_spelling p f g report) after)

module _ {A : Type 0} {Fits : A → Type 0} {spelling : A → List ℕ} {reading : List ℕ → Result (A × List ℕ) CodecError} (codec : IsCodec Fits spelling reading) (takes_some : (x : A) (rest after : List ℕ) → rest ≡ spelling x ++ after → length after < length rest) where
  -- nothing more is read of these bytes
  abbrev Ends : List ℕ → Type 0
  Ends rest = (rest ≡ []) ⊎ IsErr (reading rest)

  not_both : (r : Result (A × List ℕ) CodecError) (p : A × List ℕ) → r ≡ Ok p → IsErr r → ⊥
  not_both r p is err = let bad : false ≡ true = subst (λ (q : Result (A × List ℕ) CodecError). IsErr q) is err in cc

  ok_is : (r : Result (A × List ℕ) CodecError) (p q : A × List ℕ) → r ≡ Ok p → r ≡ Ok q → p ≡ q
  ok_is r p q first second = cc

  -- where nothing more is read, no value stands
  nothing_stands : (x : A) (rest after : List ℕ) → Fits x → rest ≡ spelling x ++ after → Ends rest → ⊥
  nothing_stands x rest after fits is ends = elim ends [
    | inl none ↦ let longer = takes_some x rest after is in absurd (omega (arith, longer, ap length none))
    | inr err ↦ not_both (reading rest) (x, after) (ap reading is ∙ codec.again x after fits) err
  ]

  -- bytes are read in one way
  same_read : (xs ys : List A) (r s : List ℕ) → All Fits xs → All Fits ys → flat_map spelling xs ++ r ≡ flat_map spelling ys ++ s → Ends r → Ends s → xs ≡ ys
  same_read [] [] r s fx fy is ends_r ends_s = refl
  same_read [] (y ∷ ys) r s fx fy is ends_r ends_s = absurd (nothing_stands y r (flat_map spelling ys ++ s) (All-head Fits y ys fy) (is ∙ append_assoc (spelling y) (flat_map spelling ys) s) ends_r)
  same_read (x ∷ xs) [] r s fx fy is ends_r ends_s = absurd (nothing_stands x s (flat_map spelling xs ++ r) (All-head Fits x xs fx) (sym is ∙ append_assoc (spelling x) (flat_map spelling xs) r) ends_s)
  same_read (x ∷ xs) (y ∷ ys) r s fx fy is ends_r ends_s =
      let first = codec.again x (flat_map spelling xs ++ r) (All-head Fits x xs fx) in
      let second = codec.again y (flat_map spelling ys ++ s) (All-head Fits y ys fy) in
      let bytes : spelling x ++ (flat_map spelling xs ++ r) ≡ spelling y ++ (flat_map spelling ys ++ s) = sym (append_assoc (spelling x) (flat_map spelling xs) r) ∙ is ∙ append_assoc (spelling y) (flat_map spelling ys) s in
      let pair = ok_is (reading (spelling x ++ (flat_map spelling xs ++ r))) _ _ first (ap reading bytes ∙ second) in
      let rest : xs ≡ ys = same_read xs ys r s (All-tail Fits x xs fx) (All-tail Fits y ys fy) (ap (λ (p : A × List ℕ). p.1) pair) ends_r ends_s in
      ap (λ (z : A). z ∷ xs) (ap (λ (p : A × List ℕ). p.0) pair) ∙ ap (λ (zs : List A). y ∷ zs) rest

  read_ends : (fault : Option ℕ) (bytes rest : List ℕ) → MatchOption fault (rest ≡ []) (λ place. (place + length rest ≡ length bytes) × (rest ≢ []) × IsErr (reading rest)) → Ends rest
  read_ends None bytes rest ends = inl ends
  read_ends (Some place) bytes rest ends = inr ends.2

  -- the reports that bytes hold are these alone
  pub IsRead-unique : (bytes : List ℕ) (xs ys : List A) (f g : Option ℕ) → IsRead Fits spelling reading bytes xs f → IsRead Fits spelling reading bytes ys g → xs ≡ ys
  IsRead-unique bytes xs ys f g a b = same_read xs ys a.rest b.rest a.fitting b.fitting (sym a.whole ∙ b.whole) (read_ends f bytes a.rest a.ends) (read_ends g bytes b.rest b.ends)

  -- joined spellings are read to their end, and as these
  pub joined-read : (xs ys : List A) (f : Option ℕ) → All Fits xs → IsRead Fits spelling reading (flat_map spelling xs) ys f → (ys ≡ xs) × (f ≡ None)
  joined-read xs ys f fits read =
      let same = IsRead-unique (flat_map spelling xs) ys xs f None read (record { fitting = fits; rest = []; whole = sym (append-nil (flat_map spelling xs)); ends = refl }) in
      let whole : flat_map spelling xs ≡ flat_map spelling xs ++ read.rest = read.whole ∙ ap (λ (zs : List A). flat_map spelling zs ++ read.rest) same in
      (same, ended f (none_behind (flat_map spelling xs) read.rest whole) read.ends)
    where
      none_behind : (bytes rest : List ℕ) → bytes ≡ bytes ++ rest → rest ≡ []
      none_behind bytes [] is = refl
      none_behind bytes (b ∷ rest) is = absurd (omega (arith, ap length is, length-append bytes (b ∷ rest)))

      ended : (fault : Option ℕ) → read.rest ≡ [] → MatchOption fault (read.rest ≡ []) (λ place. (place + length read.rest ≡ length (flat_map spelling xs)) × (read.rest ≢ []) × IsErr (reading read.rest)) → fault ≡ None
      ended None none ends = refl
      ended (Some place) none ends = absurd (ends.1 none)
