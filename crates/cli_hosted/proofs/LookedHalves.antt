-- How a call answers that leaves two files as they are.
use Rattle.std.proofs.Common.{◌≡◌, ◌⊎◌, inl, inr, ⊎_elim, ℕ, List, Bool, true, false, drop, refl, sym, ap, subst}
use Rattle.journal_look.specs.Look.{BeginsLikeOne}
use Rattle.simplex_journal.specs.Generation.{IsGeneration, IsOf}
use Rattle.simplex_journal.specs.GenerationLaws.{number_any}
use Rattle.simplex_record.specs.declared.owner.Owner.{Owner}
use Rattle.cli_opening.specs.Halves.{IsBarredOnHalf, behind}
use Rattle.cli_opening.specs.Looking.{IsBarredBy, IsBeyondCut}
use Rattle.cli_opening.specs.declared.looking.Barred.{Barred}
use Rattle.cli_opening.specs.declared.looking.Barred.TheVariants as barred
use Rattle.cli_hosted.specs.declared.status.Status.TheVariants as status
use Rattle.cli_hosted.specs.Pairs.{AreBarred, AreTornIn, BeginsAsNone}
use Rattle.cli_hosted.specs.Serving.{barred_place, barred_status}
use Rattle.cli_calls.specs.Told.{Names}
use Rattle.cli_hosted.proofs.Looked.{unasked}

pub half_torn_by : (base : List ℕ) (members : ℕ) (owner : Owner) (named place : ℕ) (cuts : Bool) (one other : List ℕ) (why : Barred) → barred_status why ≡ status.Torn
    → AreBarred base members owner one other why → (cuts ≡ true → IsBeyondCut why) → Names named place (barred_place why) → (cuts ≡ false) × AreTornIn base members owner one other place
half_torn_by base members owner named place cuts one other barred.Memory is bars beyond names = absurd cc
half_torn_by base members owner named place cuts one other barred.Device is bars beyond names = absurd cc
half_torn_by base members owner named place cuts one other barred.NoRecord is bars beyond names = absurd cc
half_torn_by base members owner named place cuts one other (barred.Foreign at) is bars beyond names = absurd cc
half_torn_by base members owner named place cuts one other (barred.Unlawful at) is bars beyond names = absurd cc
half_torn_by base members owner named place cuts one other (barred.Unclosed at) is bars beyond names =
    (unasked cuts beyond, inl (subst (λ (p : ℕ). AreBarred base members owner one other (barred.Unclosed p)) (sym names.1) bars))
half_torn_by base members owner named place cuts one other (barred.Behind at) is bars beyond names =
    (unasked cuts beyond, inr (subst (λ (p : ℕ). AreBarred base members owner one other (barred.Behind p)) (sym names.1) bars))

-- what is told as no record behind a head is none there
cause_of : (base : List ℕ) (members : ℕ) (owner : Owner) (bytes : List ℕ) (head : ℕ) (cause : Barred) → barred.NoRecord ≡ behind head cause
    → IsBarredBy base members owner (drop head bytes) cause → ¬ BeginsLikeOne (drop head bytes)
cause_of base members owner bytes head barred.Memory told bars = absurd cc
cause_of base members owner bytes head barred.Device told bars = absurd cc
cause_of base members owner bytes head barred.NoRecord told bars = bars
cause_of base members owner bytes head (barred.Foreign at) told bars = absurd cc
cause_of base members owner bytes head (barred.Unlawful at) told bars = absurd cc
cause_of base members owner bytes head (barred.Unclosed at) told bars = absurd cc
cause_of base members owner bytes head (barred.Behind at) told bars = absurd cc

no_half : (base : List ℕ) (members : ℕ) (owner : Owner) (bytes : List ℕ) → IsBarredOnHalf base members owner bytes barred.NoRecord → BeginsAsNone bytes
no_half base members owner bytes bars = record {
  generation = bars.generation;
  head = bars.head;
  of = bars.of;
  none = cause_of base members owner bytes bars.head bars.cause bars.told bars.barred;
}

pub no_half_by : (base : List ℕ) (members : ℕ) (owner : Owner) (one other : List ℕ) (why : Barred) → barred_status why ≡ status.NoRecord → AreBarred base members owner one other why
    → BeginsAsNone one ⊎ BeginsAsNone other
no_half_by base members owner one other barred.Memory is bars = absurd cc
no_half_by base members owner one other barred.Device is bars = absurd cc
no_half_by base members owner one other barred.NoRecord is bars =
    ⊎_elim (λ is. inl (no_half base members owner one is)) (λ is. inr (no_half base members owner other is)) bars
no_half_by base members owner one other (barred.Foreign at) is bars = absurd cc
no_half_by base members owner one other (barred.Unlawful at) is bars = absurd cc
no_half_by base members owner one other (barred.Unclosed at) is bars = absurd cc
no_half_by base members owner one other (barred.Behind at) is bars = absurd cc

-- any bytes are of a generation or of none
headed : (bytes : List ℕ) (generation : ℕ) (rest : List ℕ) → IsOf bytes generation rest → (number : ℕ) × (head : ℕ) × IsOf bytes number (drop head bytes)
headed bytes generation rest (inl is) =
    (generation, 9, inl (subst (λ (l : List ℕ). IsGeneration bytes generation l) (sym (ap (λ (l : List ℕ). drop 9 l) is.split)) is))
headed bytes generation rest (inr (none, zero, same)) = (0, 0, inr (none, refl, refl))

-- so of bytes that weren't looked at nothing is said
pub unread : (base : List ℕ) (members : ℕ) (owner : Owner) (bytes : List ℕ) → IsBarredOnHalf base members owner bytes barred.Memory
unread base members owner bytes =
    let any = number_any bytes in let so = headed bytes any.0 any.1.0 any.1.1 in
    record { generation = so.0; head = so.1; of = so.2; cause = barred.Memory; told = refl; barred = tt }
