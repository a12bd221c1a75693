use Rattle.std.proofs.Common.{◌≡◌, ◌≢◌, ◌⊎◌, inl, inr, false}
use Rattle.std.specs.List.{All}
use Rattle.types_codec.specs.Codec.{Readable}
use Rattle.simplex_journal.specs.declared.fault.PairFault.{PairFault}
use Rattle.simplex_journal.specs.declared.fault.PairFault.TheVariants.{Device, Memory, TooLong, Failed, Exhausted}
use Rattle.simplex_journal.specs.Standing.{IsShortList}
use Rattle.simplex_journal.proofs.Histories.{not_failed, all_short, rewritten_stands, cut_rewrite_stands, refused_rewrite_stands}
use Rattle.simplex_journal.proofs.history.Stage.rewrite.Goals as goal

never_device : (fault : PairFault) → (fault ≡ Memory) ⊎ ((fault ≡ TooLong) ⊎ ((fault ≡ Failed) ⊎ (fault ≡ Exhausted))) → fault ≢ Device
never_device fault (inl memory) device = absurd cc
never_device fault (inr (inl too_long)) device = absurd cc
never_device fault (inr (inr (inl failed))) device = absurd cc
never_device fault (inr (inr (inr exhausted))) device = absurd cc

pub returns-in-Ok-clause-stands : goal.returns-in-Ok-clause-stands
returns-in-Ok-clause-stands g c = λ k given history at.
    let Fits = Readable g.M.Write.fits (g.M.Read.within 65535) in
    let done = c.in-Ok.ensures in
    let pair = c.in-Open.pair in
    let list = c.args.list in
    let fresh : pair.failed ≡ false = not_failed done.refused_if_failed (λ refused. cc) in
    let short : IsShortList g.M.Write.spelling list.items = rw c.deref.ensures.value at done.short in
    let readable : All g.M.Write.fits list.items = rw c.deref.ensures.value at done.readable in
    let fits : All Fits list.items = λ i d lt. (readable i d lt, c.requires i d lt) in
    rw c.in-Open.is (rewritten_stands _ _ _ _ _ pair c.rewrite.new.self list history (all_short Fits g.M.Write.spelling list.items fits short) fresh done.stays_open short
    (λ messages. rw c.deref.ensures.value at (done.record messages k)) (λ messages. rw c.deref.ensures.value at (done.any_moment messages k)) (rw c.in-Open.is at at))

pub returns-in-Err-clause-stands : goal.returns-in-Err-clause-stands
returns-in-Err-clause-stands g c = λ k given history at.
    let Fits = Readable g.M.Write.fits (g.M.Read.within 65535) in
    let done = c.in-Err.ensures in
    let pair = c.in-Open.pair in
    let list = c.args.list in
    let here = rw c.in-Open.is at at in
    let short : (c.in-Err.fault ≡ Device) ⊎ (c.in-Err.fault ≡ Memory) → IsShortList g.M.Write.spelling list.items = λ either. rw c.deref.ensures.value at (done.short_of_others either) in
    elim done.faults [
      | inl device ↦
          let fresh : pair.failed ≡ false = not_failed done.refused_if_failed (λ refused. cc) in
          let fails = done.device (cc) in
          let readable : All g.M.Write.fits list.items = rw c.deref.ensures.value at (done.readable_of_others (inl device)) in
          let fits : All Fits list.items = λ i d lt. (readable i d lt, c.requires i d lt) in
          rw (c.in-Open.is, device) (cut_rewrite_stands _ _ _ _ _ pair c.rewrite.new.self list history (all_short Fits g.M.Write.spelling list.items fits (short (inl device))) fresh fails.0 (short (inl device))
          (λ messages. rw c.deref.ensures.value at (done.any_moment messages k)) here)
      | inr refused ↦
          let same : c.rewrite.new.self ≡ pair = done.unchanged (never_device c.in-Err.fault refused) in
          rw (c.in-Open.is, same) (refused_rewrite_stands _ _ _ _ _ c.in-Err.fault pair list history (never_device c.in-Err.fault refused) (λ memory. short (inr memory))
          (λ long. rw c.deref.ensures.value at (done.too_long (cc))) here)
    ]
