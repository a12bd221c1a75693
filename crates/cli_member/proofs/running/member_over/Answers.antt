use Rattle.std.proofs.Common.{inl, inr, refl}
use Rattle.cli_member.proofs.Ended.{ended_status, one_of_three, silent_of}
use Rattle.cli_member.proofs.running.member_over.Goals as goal

pub returns-clause-statuses : goal.returns-clause-statuses
returns-clause-statuses g c =
    one_of_three c.drive_member-ended.result.0 c.tell.result (ended_status c.drive_member-ended.result.0 c.tell.result c.tell.ensures.whole c.tell.ensures.status)

-- it was left
pub returns-in-Err-clause-comes_to : goal.returns-in-Err-clause-comes_to
returns-in-Err-clause-comes_to g c =
    inl (
      c.in-Err.barred,
      c.left.ensures.status,
      record {
        barred = c.in-Err.ensures.barred;
        beyond = c.in-Err.ensures.cut;
        untouched = c.look_for.ensures.untouched;
        told = c.left.ensures.told;
      },
      refl,
      refl,
    )

-- it was found to be a record of the member, which ran over it
pub returns-clause-comes_to : goal.returns-clause-comes_to
returns-clause-comes_to g c =
    inr (
      c.look_for.new.disk,
      c.drive_member-ended.result.0,
      ended_status c.drive_member-ended.result.0 c.tell.result c.tell.ensures.whole c.tell.ensures.status,
      record {
        found = c.in-Ok.found;
        is_found = c.in-Ok.ensures.found;
        seen = c.in-Ok.ensures.seen;
        untouched = c.look_for.ensures.untouched;
        mid = _;
        found_told = c.say_found.ensures.told;
        silent = silent_of g.F.Write.contents c.drive_member-ended.result.0 _ _ c.tell.ensures.silent;
        told = c.tell.ensures.told;
      },
      c.drive_member-ended.ensures.streams,
      rw c.one.ensures at c.drive_member-ended.ensures.comes_to,
    )

-- one disk is given back
pub one-requires : goal.one-requires
one-requires g c = c.drive_member-ended.ensures.as_many
