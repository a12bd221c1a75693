-- What two disks read as: lemmas.
use Rattle.std.proofs.Common.{◌≡◌, ◌⊎◌, inl, inr, ⊎_elim, ℕ, Bool, true, false, ◌+◌, ◌<◌, ◌≤◌, List, arith, subst}
use Rattle.journal_single.specs.Record.{Reads}
use Rattle.journal_single.specs.OneReading.{unique}
use Rattle.journal_single.specs.Total.{reads_any}
use Rattle.simplex_journal.specs.Generation.{IsGeneration, IsNumber, IsBelow, IsPassed}
use Rattle.simplex_journal.specs.GenerationLaws.{one_generation, one_of, number_any, below_number}
use Rattle.simplex_journal.specs.Reading.{ReadsAs, ReadsBeside, ReadsPair}

-- a disk reads as one thing alone
pub one_reading : {bytes : List ℕ} {g h : ℕ} (xs ys : List (List ℕ)) → ReadsAs bytes g xs → ReadsAs bytes h ys → (g ≡ h) × (xs ≡ ys)
one_reading {bytes} {g} {h} xs ys r s =
    let same = one_of r.of s.of in
    (same.0, unique xs ys s.rest (subst (λ (l : List ℕ). Reads l xs) same.1 r.reads) s.reads)

-- the number is positive only where there is a head
pub headed : {bytes : List ℕ} {g : ℕ} {bodies : List (List ℕ)} (r : ReadsAs bytes g bodies) → 0 < g → IsGeneration bytes g r.rest
headed {bytes} {g} {bodies} r some = ⊎_elim (λ is. is) (λ none. absurd (omega (arith, some, none.1))) r.of

pub number_read : {bytes : List ℕ} {g : ℕ} {bodies : List (List ℕ)} → ReadsAs bytes g bodies → IsNumber bytes g
number_read r = (r.rest, r.of)

-- a pair reads as one thing alone
not_both : (first second : List ℕ) (xs ys : List (List ℕ)) → ReadsBeside true first second xs → ReadsBeside false second first ys → ⊥
not_both first second xs ys r s =
    let one : s.generation < r.generation + 1 = r.passed s.generation s.reads.rest (headed s.reads s.passed.0) in
    let two : r.generation < s.generation = s.passed.1 r.generation r.reads.rest (headed r.reads (omega (arith, one, s.passed.0))) in
    absurd (omega (arith, one, two))

pub one_pair : (first second : List ℕ) (xs ys : List (List ℕ)) → ReadsPair first second xs → ReadsPair first second ys → xs ≡ ys
one_pair first second xs ys r s = ⊎_elim
    (λ a. ⊎_elim (λ b. (one_reading xs ys a.reads b.reads).1) (λ b. absurd (not_both first second xs ys a b)) s)
    (λ a. ⊎_elim (λ b. absurd (not_both first second ys xs b a)) (λ b. (one_reading xs ys a.reads b.reads).1) s) r

-- two disks read as something
less_or_not : (m n : ℕ) → (m ≤ n) ⊎ (n < m)
less_or_not m n = grind arith

pub pair_any : (first second : List ℕ) → (bodies : List (List ℕ)) × ReadsPair first second bodies
pair_any first second =
    let one = number_any first in
    let two = number_any second in
    elim (less_or_not two.0 one.0) [
      | inl le ↦
          let r = reads_any one.1.0 in
          (r.0, inl (record { generation = one.0; reads = record { rest = one.1.0; of = one.1.1; reads = r.1 }; passed = below_number second two.0 (one.0 + 1) two.1 (omega (arith, le)) }))
      | inr lt ↦
          let r = reads_any two.1.0 in
          (r.0, inr (record { generation = two.0; reads = record { rest = two.1.0; of = two.1.1; reads = r.1 }; passed = (omega (arith, lt), below_number first one.0 two.0 one.1 lt) }))
    ]

-- what is of the same generation may stand in for the other where it is passed
below_same : {a b : List ℕ} {g : ℕ} {bodies others : List (List ℕ)} (bound : ℕ) → ReadsAs a g bodies → ReadsAs b g others → IsBelow a bound → IsBelow b bound
below_same {a} {b} {g} {bodies} {others} bound r s below h rest is =
    let same : g ≡ h = ⊎_elim (λ some. one_generation some is) (λ none. absurd (none.0 h rest is)) s.of in
    omega (arith, same, below g r.rest (headed r (omega (arith, same, is.from_one))))

passed_same : (is_first : Bool) {a b : List ℕ} {g : ℕ} {bodies others : List (List ℕ)} (h : ℕ) → ReadsAs a g bodies → ReadsAs b g others → IsPassed is_first a h → IsPassed is_first b h
passed_same true h r s passed = below_same (h + 1) r s passed
passed_same false h r s passed = (passed.0, below_same h r s passed.1)

pub passing_same : (is_first : Bool) (a b other : List ℕ) (g : ℕ) (bodies others xs : List (List ℕ)) → ReadsAs a g bodies → ReadsAs b g others → ReadsBeside is_first other a xs → ReadsBeside is_first other b xs
passing_same is_first a b other g bodies others xs r s beside = record { generation = beside.generation; reads = beside.reads; passed = passed_same is_first beside.generation r s beside.passed }
