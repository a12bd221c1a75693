-- The record on a disk: entries of an open gate, a length in four bytes and a body, and then a closed gate.
use Rattle.std.specs.Prelude.{◌≡◌, ◌⊎◌, ◌+◌, ◌*◌, ◌<◌, ℕ, List, [], ◌∷◌, ◌++◌, length, map, All}
use Rattle.types_codec.specs.Codec.{SpellsNone}
use Rattle.journal_single.specs.Disk.{Call, Synced, MayLeave}

-- the number that four bytes spell, most significant first
abbrev pub size : ℕ → ℕ → ℕ → ℕ → ℕ
size a b c d = ((a * 256 + b) * 256 + c) * 256 + d

-- the bytes begin with an open entry that is whole, its next gate byte included
pub record HasEntry (bytes body after : List ℕ) : Type 0 where
  pub a : ℕ
  pub b : ℕ
  pub c : ℕ
  pub d : ℕ
  pub split : bytes ≡ 1 ∷ a ∷ b ∷ c ∷ d ∷ body ++ after
  pub long : length body ≡ size a b c d
  pub gate : 0 < length after

-- no whole open entry begins here
abbrev pub IsEnd : List ℕ → Type 0
IsEnd bytes = (body after : List ℕ) → HasEntry bytes body after → ⊥

-- these bytes are the open entries of these bodies
abbrev pub AreEntries : List ℕ → List (List ℕ) → Type 0
AreEntries bytes [] = bytes ≡ []
AreEntries bytes (body ∷ bodies) = (a : ℕ) × (b : ℕ) × (c : ℕ) × (d : ℕ) × (after : List ℕ) × (bytes ≡ 1 ∷ a ∷ b ∷ c ∷ d ∷ body ++ after) × (length body ≡ size a b c d) × AreEntries after bodies

-- how many bytes the entries of these bodies take, the place of the gate behind them
abbrev pub end_of : List (List ℕ) → ℕ
end_of [] = 0
end_of (body ∷ bodies) = 5 + length body + end_of bodies

-- a disk reads as these bodies
pub record Reads (disk : List ℕ) (bodies : List (List ℕ)) : Type 0 where
  pub front : List ℕ
  pub end : List ℕ
  pub split : disk ≡ front ++ end
  pub entries : AreEntries front bodies
  pub ended : IsEnd end
  pub gate : (bodies ≡ []) ⊎ (0 < length end)

abbrev pub IsWithOrWithout : List (List ℕ) → List ℕ → List ℕ → Type 0
IsWithOrWithout bodies body image = Reads image bodies ⊎ Reads image (bodies ++ body ∷ [])

-- these bytes are a length in four bytes, that body and a closed gate
pub record Spells (bytes body : List ℕ) : Type 0 where
  pub a : ℕ
  pub b : ℕ
  pub c : ℕ
  pub d : ℕ
  pub split : bytes ≡ a ∷ b ∷ c ∷ d ∷ body ++ 0 ∷ []
  pub long : length body ≡ size a b c d

-- a disk holds entries of these bodies and a closed gate at this place, and a crash leaves nothing else
pub record IsAtRest (head seen : List ℕ) (calls : List Call) (gate : ℕ) (bodies : List (List ℕ)) : Type 0 where
  pub front : List ℕ
  pub entries : AreEntries front bodies
  pub gate_is : gate ≡ length (head ++ front)
  pub seen_is : seen ≡ head ++ front ++ 0 ∷ []
  pub earlier : List Call
  pub calls_is : calls ≡ Synced (head ++ front ++ 0 ∷ []) ∷ earlier

-- of these bytes the entries of these bodies have been read, and this is left
pub record IsLeft (head bytes rest : List ℕ) (bodies : List (List ℕ)) : Type 0 where
  pub front : List ℕ
  pub split : bytes ≡ head ++ front ++ rest
  pub entries : AreEntries front bodies
  pub gate : (bodies ≡ []) ⊎ (0 < length rest)

-- these bytes read as these bodies, and the gate behind the last stands at this place
pub record IsFound (head bytes : List ℕ) (gate : ℕ) (bodies : List (List ℕ)) : Type 0 where
  pub rest : List ℕ
  pub left : IsLeft head bytes rest bodies
  pub ended : IsEnd rest
  pub gate_is : gate ≡ length (head ++ left.front)

-- the same of a disk on which nothing else is left by a crash
pub record IsFixed (seen : List ℕ) (calls : List Call) : Type 0 where
  pub earlier : List Call
  pub is : calls ≡ Synced seen ∷ earlier

-- the image reads as a record that a crash after these calls might have left
pub record IsReopened (calls : List Call) (image : List ℕ) : Type 0 where
  pub before : List ℕ
  pub bodies : List (List ℕ)
  pub left : MayLeave calls before
  pub reads_before : Reads before bodies
  pub reads : Reads image bodies

-- what fits, and is spelled by fewer bytes than these
abbrev pub FitsBelow : {M : Type 0} → ℕ → (M → Type 0) → (M → List ℕ) → M → Type 0
FitsBelow limit Fits spelling m = Fits m × (length (spelling m) < limit)

-- the bytes have whole entries of messages, and at this place an open entry that is whole and of none
pub record IsForeign (head : List ℕ) {M : Type 0} (Fits : M → Type 0) (spelling : M → List ℕ) (bytes : List ℕ) (place : ℕ) : Type 0 where
  pub messages : List M
  pub fitting : All Fits messages
  pub rest : List ℕ
  pub left : IsLeft head bytes rest (map spelling messages)
  pub body : List ℕ
  pub after : List ℕ
  pub entry : HasEntry rest body after
  pub none : SpellsNone Fits spelling body
  pub place_is : place ≡ length (head ++ left.front)
