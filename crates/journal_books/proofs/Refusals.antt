-- What an append that failed for another reason than a disk leaves.
use Rattle.std.proofs.Common.{◌≡◌, ◌≢◌, ◌⊎◌, ⊎_elim, Result, Ok, Err, ap}
use Rattle.std.specs.Prelude.{IfErr}
use Rattle.simplex_journal.specs.declared.fault.PairFault.{PairFault}
use Rattle.simplex_journal.specs.declared.fault.PairFault.TheVariants.{Device, Failed, Memory, TooLong}

-- so it is for each of the other reasons
pub but_device : {A P : Type 0} (r : Result A PairFault) → IfErr r (λ f. (f ≡ Device) ⊎ ((f ≡ Memory) ⊎ ((f ≡ TooLong) ⊎ (f ≡ Failed))))
    → (r ≡ Err Memory → P) → (r ≡ Err TooLong → P) → (r ≡ Err Failed → P) → IfErr r (λ f. f ≢ Device → P)
but_device (Ok x) faults memory long failed = tt
but_device (Err why) faults memory long failed = λ other. ⊎_elim
    (λ is. absurd (other is))
    (λ rest. ⊎_elim (λ is. memory (ap Err is)) (λ more. ⊎_elim (λ is. long (ap Err is)) (λ is. failed (ap Err is)) more) rest)
    faults
