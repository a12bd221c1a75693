use Rattle.std.proofs.Common.{◌≡◌, ◌≢◌, ◌⊎◌, ◌∙◌, inl, inr, sym, Bool, true, false}
use Rattle.std.proofs.lemmas.Bool.{cases_Bool}
use Rattle.journal_single.specs.declared.fault.JournalFault.{JournalFault}
use Rattle.journal_single.specs.declared.fault.JournalFault.TheVariants.{Device, Memory, TooLong, Failed}
use Rattle.journal_single.proofs.Histories.{appended_stands, cut_stands, refused_stands}
use Rattle.journal_single.proofs.history.Stage.append.Goals as goal

never_device : (fault : JournalFault) → (fault ≡ Memory) ⊎ ((fault ≡ TooLong) ⊎ (fault ≡ Failed)) → fault ≢ Device
never_device fault (inl memory) device = absurd cc
never_device fault (inr (inl too_long)) device = absurd cc
never_device fault (inr (inr failed)) device = absurd cc

-- what a journal that has failed refuses was asked of one that had not
not_failed : {failed : Bool} {Refused : Type 0} → (failed ≡ true → Refused) → (Refused → ⊥) → failed ≡ false
not_failed {failed} {Refused} refuses never = elim (cases_Bool failed) [
  | inl is ↦ absurd (never (refuses is))
  | inr is ↦ is
]

pub returns-in-Ok-clause-stands : goal.returns-in-Ok-clause-stands
returns-in-Ok-clause-stands g c = λ k given history at.
    let done = c.in-Ok.ensures in
    let fresh : c.in-Open.journal.failed ≡ false = not_failed done.refused_if_failed (λ refused. cc) in
    rw c.in-Open.is (appended_stands _ _ _ _ _ c.in-Open.journal c.append.new.self c.args.message history (done.readable fresh, c.requires) fresh done.stays_open
    (λ long. absurd (let refused = done.refused_if_long fresh long in cc))
    (λ messages. done.record messages k) (λ messages. done.any_moment messages k) (rw c.in-Open.is at at))

pub returns-in-Err-clause-stands : goal.returns-in-Err-clause-stands
returns-in-Err-clause-stands g c = λ k given history at.
    let done = c.in-Err.ensures in
    let here = rw c.in-Open.is at at in
    elim done.faults [
      | inl device ↦
          let fresh : c.in-Open.journal.failed ≡ false = not_failed done.refused_if_failed (λ refused. cc) in
          let fails = done.device (cc) in
          rw (c.in-Open.is, device) (cut_stands _ _ _ _ _ c.in-Open.journal c.append.new.self c.args.message history (done.readable fresh, c.requires) fresh fails.0 (λ long. absurd (let refused = done.refused_if_long fresh long in cc)) (λ messages. done.any_moment messages k) here)
      | inr refused ↦
          let same : c.append.new.self ≡ c.in-Open.journal = elim refused [
            | inl memory ↦ done.memory (cc)
            | inr (inl too_long) ↦ (done.too_long (cc)).0
            | inr (inr failed) ↦ (done.failed (cc)).0
          ] in
          let fresh : c.in-Err.fault ≢ Failed → c.in-Open.journal.failed ≡ false = λ other. not_failed done.refused_if_failed (λ refused. other cc) in
          rw (c.in-Open.is, same) (refused_stands _ _ _ _ _ c.in-Err.fault c.in-Open.journal c.args.message history (never_device c.in-Err.fault refused) fresh
          (λ memory long. absurd (let is = done.refused_if_long (fresh (λ failed. absurd (let never : Memory ≡ Failed = sym memory ∙ failed in cc))) long in cc))
          (λ long. (done.too_long (cc)).1) here)
    ]
