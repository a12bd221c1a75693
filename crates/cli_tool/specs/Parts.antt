-- The parts of a line, in words or in JSON.
use Rattle.std.specs.Prelude.{ℕ, Bool, true, false, List, ◌++◌, codes}
use Rattle.std.specs.Fmt.{decimal}
use Rattle.hex.specs.Hex.{encode_lower}
use Rattle.types_core.specs.declared.attestation.Attestation.{Attestation}
use Rattle.types_core.specs.declared.position.Round.{Round}
use Rattle.cli_tool.specs.declared.style.Style.{Style}
use Rattle.cli_tool.specs.declared.style.Style.TheVariants.{Plain, Json}

-- what a line begins with: the kind of what it tells
unfoldable pub kind_words : Style → List ℕ → List ℕ
kind_words Plain kind = kind
kind_words Json kind = codes "{\"kind\":\"" ++ (kind ++ codes "\"")

-- a name and its value
unfoldable pub field : Style → List ℕ → List ℕ → List ℕ
field Plain name value = codes " " ++ (name ++ (codes " " ++ value))
field Json name value = codes ",\"" ++ (name ++ (codes "\":\"" ++ (value ++ codes "\"")))

-- what a line ends with
unfoldable pub line_end : Style → List ℕ
line_end Plain = codes "\n"
line_end Json = codes "}\n"

-- the line for a place, counted in bytes from 0, at which something stands that the word says
unfoldable pub place_line : Style → List ℕ → ℕ → List ℕ
place_line Plain word place = word ++ (codes " at byte " ++ (decimal place ++ line_end Plain))
place_line Json word place = kind_words Json word ++ (field Json (codes "byte") (decimal place) ++ line_end Json)

-- the epoch and the view of a round
unfoldable pub round_fields : Style → Round → List ℕ
round_fields style round = field style (codes "epoch") (decimal round.epoch) ++ field style (codes "view") (decimal round.view)

-- an attestation of a list: the signature, under a name with the signer's index
unfoldable pub signature_field : Style → Attestation (List ℕ) → List ℕ
signature_field style a = field style (codes "signature-" ++ decimal a.signer) (encode_lower a.signature)

-- a truth value in words
abbrev pub truth_word : Bool → List ℕ
truth_word true = codes "true"
truth_word false = codes "false"
