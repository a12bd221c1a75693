-- What a host is asked to do with the bytes that it keeps, as bytes.
use Rattle.std.specs.Prelude.{◌≡◌, ℕ, ◌+◌, List, [], ◌∷◌, ◌++◌, length}
use Rattle.std.specs.Int.{w64, to_be_bytes}
use Rattle.cli_disk.specs.declared.requests.File.{File}
use Rattle.cli_disk.specs.declared.requests.File.TheVariants as file

-- a number as eight bytes, the highest first
unfoldable pub number : ℕ → List ℕ
number n = to_be_bytes w64 n

-- the tag of a request, by which file it speaks of: the second file's follow on the first one's three
abbrev pub tag_of : File → ℕ → ℕ
tag_of file.First tag = tag
tag_of file.Second tag = tag + 3

-- write these bytes from a place on: tag 0, the place, how many they are, and they
abbrev pub writing : File → ℕ → List ℕ → List ℕ
writing on at bytes = (tag_of on 0 ∷ number at) ++ number (length bytes) ++ bytes

-- cut off all behind a length: tag 1, and the length
abbrev pub cutting : File → ℕ → List ℕ
cutting on len = tag_of on 1 ∷ number len

-- fix what stands there: tag 2
abbrev pub fixing : File → List ℕ
fixing on = tag_of on 2 ∷ []

-- the last of all that is asked is this request
pub record EndsWith (request all : List ℕ) : Type 0 where
  pub before : List ℕ
  pub is : all ≡ before ++ request
