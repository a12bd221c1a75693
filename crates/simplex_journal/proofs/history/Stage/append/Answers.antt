use Rattle.std.proofs.Common.{◌≡◌, ◌≢◌, ◌⊎◌, ◌-◌, ◌^◌, ◌∙◌, inl, inr, sym, false, length}
use Rattle.journal_single.specs.Journal.{IsTooLong}
use Rattle.simplex_journal.specs.declared.fault.PairFault.{PairFault}
use Rattle.simplex_journal.specs.declared.fault.PairFault.TheVariants.{Device, Memory, TooLong, Failed}
use Rattle.simplex_journal.proofs.Histories.{not_failed, short_enough, appended_stands, cut_append_stands, refused_append_stands}
use Rattle.simplex_journal.proofs.history.Stage.append.Goals as goal

never_device : (fault : PairFault) → (fault ≡ Memory) ⊎ ((fault ≡ TooLong) ⊎ (fault ≡ Failed)) → fault ≢ Device
never_device fault (inl memory) device = absurd cc
never_device fault (inr (inl too_long)) device = absurd cc
never_device fault (inr (inr failed)) device = absurd cc

pub returns-in-Ok-clause-stands : goal.returns-in-Ok-clause-stands
returns-in-Ok-clause-stands g c = λ k given history at.
    let done = c.in-Ok.ensures in
    let pair = c.in-Open.pair in
    let size = length (g.M.Write.spelling c.args.message) in
    let fresh : pair.failed ≡ false = not_failed done.refused_if_failed (λ refused. cc) in
    let never : IsTooLong (2 ^ 32 - 1) pair.gate size → ⊥ = λ long. absurd (let refused = done.refused_if_long fresh long in cc) in
    rw c.in-Open.is (appended_stands _ _ _ _ _ pair c.append.new.self c.args.message history ((done.readable fresh, c.requires), short_enough pair.gate size never) fresh done.stays_open never
    (λ messages. done.record messages k) (λ messages. done.any_moment messages k) (rw c.in-Open.is at at))

pub returns-in-Err-clause-stands : goal.returns-in-Err-clause-stands
returns-in-Err-clause-stands g c = λ k given history at.
    let done = c.in-Err.ensures in
    let pair = c.in-Open.pair in
    let size = length (g.M.Write.spelling c.args.message) in
    let here = rw c.in-Open.is at at in
    elim done.faults [
      | inl device ↦
          let fresh : pair.failed ≡ false = not_failed done.refused_if_failed (λ refused. cc) in
          let never : IsTooLong (2 ^ 32 - 1) pair.gate size → ⊥ = λ long. absurd (let refused = done.refused_if_long fresh long in cc) in
          let fails = done.device (cc) in
          rw (c.in-Open.is, device) (cut_append_stands _ _ _ _ _ pair c.append.new.self c.args.message history ((done.readable fresh, c.requires), short_enough pair.gate size never) fresh fails.0 never (λ messages. done.any_moment messages k) here)
      | inr refused ↦
          let same : c.append.new.self ≡ pair = elim refused [
            | inl memory ↦ done.memory (cc)
            | inr (inl too_long) ↦ (done.too_long (cc)).0
            | inr (inr failed) ↦ (done.failed (cc)).0
          ] in
          let fresh : c.in-Err.fault ≢ Failed → pair.failed ≡ false = λ other. not_failed done.refused_if_failed (λ refused. other cc) in
          rw (c.in-Open.is, same) (refused_append_stands _ _ _ _ _ c.in-Err.fault pair c.args.message history (never_device c.in-Err.fault refused) fresh
          (λ memory long. absurd (let is = done.refused_if_long (fresh (λ failed. absurd (let never : Memory ≡ Failed = sym memory ∙ failed in cc))) long in cc))
          (λ long. (done.too_long (cc)).1) here)
    ]
