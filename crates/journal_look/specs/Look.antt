-- What a file holds that is to be opened as a record.
use Rattle.std.specs.Prelude.{◌≡◌, ◌≢◌, ◌⊎◌, ℕ, List, [], ◌∷◌, ◌++◌, length, map, drop, All, ⊤}
use Rattle.journal_single.specs.Record.{IsForeign, IsFound, size}
use Rattle.journal_look.specs.declared.looking.Strange.{Strange}
use Rattle.journal_look.specs.declared.looking.Strange.TheVariants as strange

-- the bytes begin with a gate, closed or open, as each record does; or there are none
abbrev pub BeginsLikeOne : List ℕ → Type 0
BeginsLikeOne [] = ⊤
BeginsLikeOne (gate ∷ bytes) = (gate ≡ 0) ⊎ (gate ≡ 1)

-- in front of these bytes stand a length in four bytes, a body of that length and a gate; the gate is open, or bytes stand behind it
pub record HasMore (bytes : List ℕ) : Type 0 where
  pub a : ℕ
  pub b : ℕ
  pub c : ℕ
  pub d : ℕ
  pub body : List ℕ
  pub gate : ℕ
  pub beyond : List ℕ
  pub split : bytes ≡ a ∷ b ∷ c ∷ d ∷ body ++ gate ∷ beyond
  pub long : length body ≡ size a b c d
  pub more : (gate ≡ 1) ⊎ (beyond ≢ [])

-- of what stands behind the entries of a record: a gate that isn't open, and behind it more than one entry whose own gate isn't. A crash
-- leaves a part of one entry there, or zeros where a system lost what was written
pub record IsTooMuch (rest : List ℕ) : Type 0 where
  pub gate : ℕ
  pub behind : List ℕ
  pub split : rest ≡ gate ∷ behind
  pub closed : gate ≢ 1
  pub more : HasMore behind
  pub kept : ¬ All (λ byte. byte ≡ 0) behind

-- of what stands behind the entries of a record: a gate that isn't closed, and so bytes behind it that are gone or were changed. A crash
-- leaves a closed one there, since a gate is opened only once its entry is kept
pub record IsUnclosed (rest : List ℕ) : Type 0 where
  pub gate : ℕ
  pub behind : List ℕ
  pub split : rest ≡ gate ∷ behind
  pub unclosed : gate ≢ 0

-- by which messages can be read, and how they are spelled: why these bytes are not to be opened as a record. No record begins so; or at this
-- place a whole entry is no message; or the gate at this place isn't closed, and no whole entry stands there; or behind the gate at this place
-- stands more than a crash leaves
abbrev pub IsStrange : {M : Type 0} → (M → Type 0) → (M → List ℕ) → List ℕ → Strange → Type 0
IsStrange Fits spelling bytes strange.Memory = ⊤
IsStrange Fits spelling bytes strange.NoRecord = ¬ BeginsLikeOne bytes
IsStrange Fits spelling bytes (strange.Foreign place) = BeginsLikeOne bytes × IsForeign [] Fits spelling bytes place
IsStrange {M} Fits spelling bytes (strange.Unclosed place) =
    BeginsLikeOne bytes × ((messages : List M) × All Fits messages × IsFound [] bytes place (map spelling messages) × IsUnclosed (drop place bytes))
IsStrange {M} Fits spelling bytes (strange.Behind place) =
    BeginsLikeOne bytes × ((messages : List M) × All Fits messages × IsFound [] bytes place (map spelling messages) × IsTooMuch (drop place bytes))
