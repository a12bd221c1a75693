-- What an opening finds.
use Rattle.std.proofs.Common.{◌≡◌, inl, inr, ⊎_elim, ℕ, ◌+◌, ◌<◌, List, [], ◌∷◌, ◌++◌, length, ◌∙◌, ap, subst, arith, length-append}
use Rattle.journal_single.specs.Disk.{Call, MayLeave}
use Rattle.journal_single.specs.Record.{AreEntries, Reads, IsWithOrWithout, IsFound, IsReopened}
use Rattle.journal_single.specs.Images.{end_short}
use Rattle.journal_single.specs.LookingLaws.{reads_found}
use Rattle.journal_single.specs.OneReading.{unique}
use Rattle.journal_single.specs.Total.{reads_end}

no_front : (front : List ℕ) (bodies : List (List ℕ)) → AreEntries front bodies → bodies ≡ [] → front ≡ []
no_front front bodies entries none = subst (λ (l : List (List ℕ)). AreEntries front l) none entries

pub found_within : {bytes : List ℕ} {gate : ℕ} {bodies : List (List ℕ)} → IsFound [] bytes gate bodies → 0 < length bytes → gate < length bytes
found_within {bytes} {gate} {bodies} f some =
    let whole : length bytes ≡ length f.left.front + length f.rest = ap length f.left.split ∙ length-append f.left.front f.rest in
    ⊎_elim
    (λ none. omega (arith, f.gate_is, some, ap length (no_front f.left.front bodies f.left.entries none)))
    (λ more. omega (arith, f.gate_is, whole, more)) f.left.gate

pub found_none : {bytes : List ℕ} {gate : ℕ} {bodies : List (List ℕ)} → IsFound [] bytes gate bodies → bytes ≡ [] → (gate ≡ 0) × (bodies ≡ [])
found_none {bytes} {gate} {bodies} f none = (
  omega (arith, f.gate_is, ap length f.left.split, length-append f.left.front f.rest, ap length none),
  unique bodies [] bytes (reads_found f) (reads_end bytes (end_short bytes (omega (arith, ap length none)))),
)

-- What an opening has found every later one finds, also where openings between have failed.
pub stays_found : (calls : List Call) (bodies : List (List ℕ)) → ((image : List ℕ) → MayLeave calls image → Reads image bodies) → (image : List ℕ) → IsReopened calls image → Reads image bodies
stays_found calls bodies all image r = subst (λ (l : List (List ℕ)). Reads image l) (unique r.bodies bodies r.before r.reads_before (all r.before r.left)) r.reads

pub stays_either : (calls : List Call) (bodies : List (List ℕ)) (body : List ℕ) → ((image : List ℕ) → MayLeave calls image → IsWithOrWithout bodies body image) → (image : List ℕ) → IsReopened calls image → IsWithOrWithout bodies body image
stays_either calls bodies body all image r = ⊎_elim
    (λ old. inl (subst (λ (l : List (List ℕ)). Reads image l) (unique r.bodies bodies r.before r.reads_before old) r.reads))
    (λ new. inr (subst (λ (l : List (List ℕ)). Reads image l) (unique r.bodies (bodies ++ body ∷ []) r.before r.reads_before new) r.reads))
    (all r.before r.left)
