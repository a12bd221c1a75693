use Rattle.std.proofs.Common.{◌∙◌, ℕ, Ok, ap, subst, refl}
use Rattle.std.specs.Prelude.{is_some}
use Rattle.types_core.specs.declared.position.Round.{Round}
use Rattle.simplex_member.specs.declared.fault.NodeFault.TheVariants as step_fault
use Rattle.voter_rules.specs.GivingUp.{MayGiveUp}
use Rattle.simplex_member.specs.Layers.{finalized_of, voter_of}
use Rattle.simplex_member.specs.Packet.{formats}
use Rattle.simplex_member.specs.Point.{Repeats}
use Rattle.simplex_member.specs.Recorded.{kept_of}
use Rattle.simplex_member.specs.Setup.{owner_of}
use Rattle.node_requests.specs.declared.acted.Acted.TheVariants as came
use Rattle.node_requests.specs.Asking.{is_none}
use Rattle.node_due.specs.NoneDue.{NoNullifyToCast}
use Rattle.node_core.specs.Standing.{begun_some}
use Rattle.node_core.specs.Leaving.{left_at_rest}
use Rattle.node_due.proofs.Casting.{behind_repeat, did_fail, did_nothing, did_one, none_to_cast, nullify_kept, repeat_allowed, still_stands}
use Rattle.node_due.proofs.casting_votes.repeat_nullify.Goals as goal

pub returns-in-Ok-send_again-clause-tried : goal.returns-in-Ok-send_again-clause-tried
returns-in-Ok-send_again-clause-tried g c = λ s h k at given_up due retry_known.
    let f = formats {S = g.row.S.Denot} {P = g.row.S-PublicKey.Denot} g.D.PartialEq.eq g.D.Write.spelling g.S.Signature.Write.spelling g.S.Certificate.Write.spelling g.D.Read.reading g.S.Signature.Read.reading g.S.Certificate.Read.reading (g.S.Scheme.size s.voter.scheme) in
    let v = c.in-Some.vote.now in
    let best = c.in-Ok.best in
    let is = (rw c.in-Ok-Some.field-0-is at c.in-Ok-Some.ensures.answer) s.voter (voter_of s h) k.voter in
    let made = (rw c.in-Ok-Some.field-0-is at c.in-Ok-Some.ensures.keeps) s.voter (voter_of s h) k.voter in
    let last = c.in-Some.ensures (owner_of s) (kept_of s.voter.length h) (c.recorded.ensures (owner_of s) (kept_of s.voter.length h) k.ledger) in
    let may = repeat_allowed g.S.Scheme f s h v best c.args.view k.begun k.allowed (c.known_nullifies_are_recorded.ensures f s) (c.what_is_kept_stands_for_all.ensures.lawful f s h k.allowed) (c.what_is_kept_tells_all.ensures f s h k.allowed) (c.what_is_kept_stands_for_all.ensures.views f s h k.allowed (begun_some h k.begun))
    (λ n. c.the_nullify_of_the_current_view_is_the_last.ensures s.voter.scheme (owner_of s) (kept_of s.voter.length h) n v)
    last at (due (subst (λ (u : ℕ). MayGiveUp s.voter (voter_of s h) u) at is.0)) given_up (c.in-Ok.ensures s.voter (voter_of s h) k.voter) in
    let tables = c.repeat.ensures (finalized_of s h) h k.tables v best in
    did_one g.S.Scheme g.L.Elector g.K.Disk f s is_none (NoNullifyToCast g.S.Scheme f s) c.args.core.now (record c.args.core.now { voter = c.construct_nullify.new.self; tables = c.repeat.new.self }) h (Repeats v best) c.args.out.now.items c.send_again.new.out.items (Ok came.Did) refl
    refl (record { keeps = behind_repeat g.S.Scheme g.L.Elector g.K.Disk f s c.args.core.now c.construct_nullify.new.self c.repeat.new.self h v best c.args.view c.silent_points_leave_votes.ensures.quiet k may.0 may.1 made tables; acts = c.in-Ok-send_again.ensures.done (g.S.Scheme.size s.voter.scheme) })
    (λ it. left_at_rest g.S.Scheme f s g.K.Disk h (Repeats v best) _ _ (c.a_ledger_at_rest_leaves_its_record.ensures (owner_of s) c.args.core.now.ledger (kept_of s.voter.length h) k.ledger it))

pub returns-in_default-clause-tried : goal.returns-in_default-clause-tried
returns-in_default-clause-tried g c = λ s h k at given_up due retry_known.
    let f = formats {S = g.row.S.Denot} {P = g.row.S-PublicKey.Denot} g.D.PartialEq.eq g.D.Write.spelling g.S.Signature.Write.spelling g.S.Certificate.Write.spelling g.D.Read.reading g.S.Signature.Read.reading g.S.Certificate.Read.reading (g.S.Scheme.size s.voter.scheme) in
    did_fail g.S.Scheme g.L.Elector g.K.Disk f s is_none (NoNullifyToCast g.S.Scheme f s) c.args.core.now _ h c.args.out.now.items c.args.out.now.items step_fault.Memory (c.a_ledger_at_rest_leaves_its_record.ensures (owner_of s) c.args.core.now.ledger (kept_of s.voter.length h) k.ledger)

pub returns-in-Ok-None-clause-tried : goal.returns-in-Ok-None-clause-tried
returns-in-Ok-None-clause-tried g c = λ s h k at given_up due retry_known.
    let f = formats {S = g.row.S.Denot} {P = g.row.S-PublicKey.Denot} g.D.PartialEq.eq g.D.Write.spelling g.S.Signature.Write.spelling g.S.Certificate.Write.spelling g.D.Read.reading g.S.Signature.Read.reading g.S.Certificate.Read.reading (g.S.Scheme.size s.voter.scheme) in
    let is = (rw c.in-Ok-None.field-0-is at c.in-Ok-None.ensures.answer) s.voter (voter_of s h) k.voter in
    let same = (rw c.in-Ok-None.field-0-is at c.in-Ok-None.ensures.keeps) s.voter (voter_of s h) k.voter in
    did_nothing g.S.Scheme g.L.Elector g.K.Disk f s is_none (NoNullifyToCast g.S.Scheme f s) c.args.core.now (record c.args.core.now { voter = c.construct_nullify.new.self }) h c.args.out.now.items
    (still_stands g.S.Scheme g.L.Elector g.K.Disk f s c.args.core.now c.construct_nullify.new.self h k same)
    (none_to_cast g.S.Scheme f s h c.args.view at (is (ap is_some k.set_up.me_is)) retry_known)
    (c.a_ledger_at_rest_leaves_its_record.ensures (owner_of s) c.args.core.now.ledger (kept_of s.voter.length h) k.ledger)

pub returns-in-Err-clause-tried : goal.returns-in-Err-clause-tried
returns-in-Err-clause-tried g c = λ s h k at given_up due retry_known.
    let f = formats {S = g.row.S.Denot} {P = g.row.S-PublicKey.Denot} g.D.PartialEq.eq g.D.Write.spelling g.S.Signature.Write.spelling g.S.Certificate.Write.spelling g.D.Read.reading g.S.Signature.Read.reading g.S.Certificate.Read.reading (g.S.Scheme.size s.voter.scheme) in
    did_fail g.S.Scheme g.L.Elector g.K.Disk f s is_none (NoNullifyToCast g.S.Scheme f s) c.args.core.now _ h c.args.out.now.items c.args.out.now.items step_fault.Memory (c.a_ledger_at_rest_leaves_its_record.ensures (owner_of s) c.args.core.now.ledger (kept_of s.voter.length h) k.ledger)

-- a nullify that the voter knows is recorded
pub returns-in_default-last_nullify-clause-tried : goal.returns-in_default-last_nullify-clause-tried
returns-in_default-last_nullify-clause-tried g c = λ s h k at given_up due retry_known.
    let f = formats {S = g.row.S.Denot} {P = g.row.S-PublicKey.Denot} g.D.PartialEq.eq g.D.Write.spelling g.S.Signature.Write.spelling g.S.Certificate.Write.spelling g.D.Read.reading g.S.Signature.Read.reading g.S.Certificate.Read.reading (g.S.Scheme.size s.voter.scheme) in
    let there = c.known_nullifies_are_recorded.ensures f s h c.args.view k.allowed given_up in
    let none = c.in_default-last_nullify.ensures (owner_of s) (kept_of s.voter.length h) (c.recorded.ensures (owner_of s) (kept_of s.voter.length h) k.ledger) in
    let views = c.what_is_kept_stands_for_all.ensures.views f s h k.allowed (begun_some h k.begun) in
    absurd (none there.nullify (nullify_kept g.S.Scheme f s h k.allowed (c.what_is_kept_tells_all.ensures f s h k.allowed) views there.nullify (ap (λ (r : Round). r.view) there.round_is ∙ at) there.recorded))

pub returns-in-Err-send_again-clause-tried : goal.returns-in-Err-send_again-clause-tried
returns-in-Err-send_again-clause-tried g c = λ s h k at given_up due retry_known.
    let f = formats {S = g.row.S.Denot} {P = g.row.S-PublicKey.Denot} g.D.PartialEq.eq g.D.Write.spelling g.S.Signature.Write.spelling g.S.Certificate.Write.spelling g.D.Read.reading g.S.Signature.Read.reading g.S.Certificate.Read.reading (g.S.Scheme.size s.voter.scheme) in
    did_fail g.S.Scheme g.L.Elector g.K.Disk f s is_none (NoNullifyToCast g.S.Scheme f s) c.args.core.now _ h c.args.out.now.items c.send_again.new.out.items c.in-Err-send_again.fault
    (c.a_ledger_at_rest_leaves_its_record.ensures (owner_of s) c.args.core.now.ledger (kept_of s.voter.length h) k.ledger)
