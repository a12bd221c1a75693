-- What is found of two disks before anything is written or cut.
use Rattle.std.specs.Prelude.{◌≡◌, ◌<◌, ℕ, Bool, true, false, List, [], ◌∷◌, length, map}
use Rattle.journal_single.specs.Disk.{Call, Synced, MayLeave}
use Rattle.journal_single.specs.Looking.{IsLeftAsItWas}
use Rattle.journal_single.specs.Record.{IsFixed}
use Rattle.simplex_journal.specs.Generation.{IsPassed}
use Rattle.simplex_journal.specs.Reading.{IsFoundOf}

-- two disks that were looked at: whether the first is to be read or the second, of which generation it is, the place of
-- the gate behind its record's last entry, and whether it is empty
pub record LookedPair (K : Type 0) : Type 0 where
  pub first : K
  pub second : K
  pub is_first : Bool
  pub generation : ℕ
  pub gate : ℕ
  pub is_empty : Bool

-- of two disks the one is to be read and was found to hold these bodies, the other is passed, and a crash leaves nothing
-- else of both
pub record IsFoundBeside (is_first : Bool) (generation : ℕ) (seen : List ℕ) (calls : List Call) (other : List ℕ) (other_calls : List Call) (gate : ℕ) (is_empty : Bool) (bodies : List (List ℕ)) : Type 0 where
  pub found : IsFoundOf generation seen gate bodies
  pub none : is_empty ≡ true → seen ≡ []
  pub some : is_empty ≡ false → gate < length seen
  pub passed : IsPassed is_first other generation
  pub fixed : IsFixed seen calls
  pub other_fixed : IsFixed other other_calls

-- the first of two disks is to be read so, or the second
abbrev pub IsPairFound : Bool → ℕ → List ℕ → List Call → List ℕ → List Call → ℕ → Bool → List (List ℕ) → Type 0
IsPairFound true generation seen calls seen-2 calls-2 gate is_empty bodies = IsFoundBeside true generation seen calls seen-2 calls-2 gate is_empty bodies
IsPairFound false generation seen calls seen-2 calls-2 gate is_empty bodies = IsFoundBeside false generation seen-2 calls-2 seen calls gate is_empty bodies

module _ {K : Type 0} (seen : K → List ℕ) (calls : K → List Call) where
  -- these messages were found on the one of two disks that is to be read
  abbrev pub HasFoundPair : {M : Type 0} → (M → List ℕ) → LookedPair K → List M → Type 0
  HasFoundPair spelling looked messages =
      IsPairFound looked.is_first looked.generation (seen looked.first) (calls looked.first) (seen looked.second) (calls looked.second) looked.gate
      looked.is_empty (map spelling messages)

  -- two disks are left as they were, and fixed: no more was asked of each than a sync
  pub record AreLeftAsTheyWere (first second after after-2 : K) : Type 0 where
    pub one : IsLeftAsItWas seen calls first after
    pub two : IsLeftAsItWas seen calls second after-2

  -- what was asked of two disks before they were looked at: since then no more than a sync of each
  pub record IsAskedBefore (looked : LookedPair K) (before before-2 : List Call) : Type 0 where
    pub left : MayLeave before (seen looked.first)
    pub left-2 : MayLeave before-2 (seen looked.second)
    pub synced : calls looked.first ≡ Synced (seen looked.first) ∷ before
    pub synced-2 : calls looked.second ≡ Synced (seen looked.second) ∷ before-2
