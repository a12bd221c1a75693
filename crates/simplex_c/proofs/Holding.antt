-- What a number tells of what a handle holds.
use Rattle.std.proofs.Common.{◌≡◌, ◌≢◌, ◌∙◌, ℕ, Option, Some, None, ap, sym}
use Rattle.std.specs.Prelude.{IfSome}
use Rattle.cli_hosted.specs.Statuses.{status_number}
use Rattle.cli_hosted.specs.declared.status.Status.{Status}
use Rattle.cli_hosted.specs.declared.status.Status.TheVariants as status
use Rattle.simplex_c.proofs.Numbers.{done_by}

module _ {S : Type 0} (result : ℕ) (told : Status) (is : result ≡ status_number told) where
  -- how a call ended is told by its number
  pub told_by : {E : Type 0} (held new : Option S) (Came : S → E → S → Type 0) (status_of : E → Status) (Named : E → Type 0)
      → IfSome held (λ old. (x : S) × (ended : E) × (new ≡ Some x) × Came old ended x × (told ≡ status_of ended) × Named ended)
      → IfSome held (λ old. (x : S) × (ended : E) × (new ≡ Some x) × Came old ended x × (result ≡ status_number (status_of ended)) × Named ended)
  told_by (Some old) new Came status_of Named said = (said.0, said.1, said.2, said.3, is ∙ ap status_number said.4, said.5)
  told_by None new Came status_of Named said = said

  -- what holds where it did what was asked
  pub done_of : (held : Option S) (Holds : S → Type 0) → IfSome held (λ old. told ≡ status.Done → Holds old) → IfSome held (λ old. result ≡ 0 → Holds old)
  done_of (Some old) Holds said = λ zero. said (done_by told (sym is ∙ zero))
  done_of None Holds said = said

  -- and where it didn't
  pub undone_of : (held : Option S) (Holds : S → Type 0) → IfSome held (λ old. told ≢ status.Done → Holds old) → IfSome held (λ old. result ≢ 0 → Holds old)
  undone_of (Some old) Holds said = λ not. said (λ done. not (is ∙ ap status_number done))
  undone_of None Holds said = said
