use Rattle.node_requests.specs.Asking.{is_none}
use Rattle.node_due.proofs.Lasting.{itself, none_lasts}
use Rattle.node_due.proofs.Settling.{did_so, failed_so, tried_as, tried_behind}
use Rattle.node_core.specs.Telling.{tells_behind, tells_ok}
use Rattle.node_due.proofs.acting.ask_for_more.Goals as goal

pub returns-in-Ok-Did-clause-tried : goal.returns-in-Ok-Did-clause-tried
returns-in-Ok-Did-clause-tried g c = λ s h k.
    did_so c.in-Ok-Did.field-0-is (c.in-Ok-Did.ensures.tried s h k c.args.out.now.items)

pub returns-in-Err-clause-tried : goal.returns-in-Err-clause-tried
returns-in-Err-clause-tried g c = λ s h k.
    failed_so (c.in-Err.ensures.tried s h k c.args.out.now.items)

pub returns-in-Ok-Did-try_build-clause-tried : goal.returns-in-Ok-Did-try_build-clause-tried
returns-in-Ok-Did-try_build-clause-tried g c = λ s h k.
    did_so c.in-Ok-Did-try_build.field-0-is (tried_behind is_none (itself is_none) (itself is_none) (none_lasts _) c.in-Ok-Nothing.field-0-is (c.in-Ok-Nothing.ensures.tried s h k c.args.out.now.items) (c.in-Ok-Did-try_build.ensures.tried s))

pub returns-in-Err-try_build-clause-tried : goal.returns-in-Err-try_build-clause-tried
returns-in-Err-try_build-clause-tried g c = λ s h k.
    failed_so (tried_behind is_none (itself is_none) (itself is_none) (none_lasts _) c.in-Ok-Nothing.field-0-is (c.in-Ok-Nothing.ensures.tried s h k c.args.out.now.items) (c.in-Err-try_build.ensures.tried s))

pub returns-in-Ok-Did-try_views-clause-tried : goal.returns-in-Ok-Did-try_views-clause-tried
returns-in-Ok-Did-try_views-clause-tried g c = λ s h k.
    let two = tried_behind is_none (itself is_none) (itself is_none) (none_lasts _) c.in-Ok-Nothing.field-0-is (c.in-Ok-Nothing.ensures.tried s h k c.args.out.now.items) (c.in-Ok-Nothing-try_build.ensures.tried s) in
    did_so c.in-Ok-Did-try_views.field-0-is (tried_behind is_none (itself is_none) (itself is_none) (none_lasts _) c.in-Ok-Nothing-try_build.field-0-is two (c.in-Ok-Did-try_views.ensures.tried s))

pub returns-in-Err-try_views-clause-tried : goal.returns-in-Err-try_views-clause-tried
returns-in-Err-try_views-clause-tried g c = λ s h k.
    let two = tried_behind is_none (itself is_none) (itself is_none) (none_lasts _) c.in-Ok-Nothing.field-0-is (c.in-Ok-Nothing.ensures.tried s h k c.args.out.now.items) (c.in-Ok-Nothing-try_build.ensures.tried s) in
    failed_so (tried_behind is_none (itself is_none) (itself is_none) (none_lasts _) c.in-Ok-Nothing-try_build.field-0-is two (c.in-Err-try_views.ensures.tried s))

pub returns-in-Ok-Did-try_again-clause-tried : goal.returns-in-Ok-Did-try_again-clause-tried
returns-in-Ok-Did-try_again-clause-tried g c = λ s h k.
    let two = tried_behind is_none (itself is_none) (itself is_none) (none_lasts _) c.in-Ok-Nothing.field-0-is (c.in-Ok-Nothing.ensures.tried s h k c.args.out.now.items) (c.in-Ok-Nothing-try_build.ensures.tried s) in
    let three = tried_behind is_none (itself is_none) (itself is_none) (none_lasts _) c.in-Ok-Nothing-try_build.field-0-is two (c.in-Ok-Nothing-try_views.ensures.tried s) in
    did_so c.in-Ok-Did-try_again.field-0-is (tried_behind is_none (itself is_none) (itself is_none) (none_lasts _) c.in-Ok-Nothing-try_views.field-0-is three (c.in-Ok-Did-try_again.ensures.tried s))

pub returns-in-Err-try_again-clause-tried : goal.returns-in-Err-try_again-clause-tried
returns-in-Err-try_again-clause-tried g c = λ s h k.
    let two = tried_behind is_none (itself is_none) (itself is_none) (none_lasts _) c.in-Ok-Nothing.field-0-is (c.in-Ok-Nothing.ensures.tried s h k c.args.out.now.items) (c.in-Ok-Nothing-try_build.ensures.tried s) in
    let three = tried_behind is_none (itself is_none) (itself is_none) (none_lasts _) c.in-Ok-Nothing-try_build.field-0-is two (c.in-Ok-Nothing-try_views.ensures.tried s) in
    failed_so (tried_behind is_none (itself is_none) (itself is_none) (none_lasts _) c.in-Ok-Nothing-try_views.field-0-is three (c.in-Err-try_again.ensures.tried s))

pub returns-clause-tried : goal.returns-clause-tried
returns-clause-tried g c = λ s h k.
    let two = tried_behind is_none (itself is_none) (itself is_none) (none_lasts _) c.in-Ok-Nothing.field-0-is (c.in-Ok-Nothing.ensures.tried s h k c.args.out.now.items) (c.in-Ok-Nothing-try_build.ensures.tried s) in
    let three = tried_behind is_none (itself is_none) (itself is_none) (none_lasts _) c.in-Ok-Nothing-try_build.field-0-is two (c.in-Ok-Nothing-try_views.ensures.tried s) in
    let four = tried_behind is_none (itself is_none) (itself is_none) (none_lasts _) c.in-Ok-Nothing-try_views.field-0-is three (c.in-Ok-Nothing-try_again.ensures.tried s) in
    tried_as (λ at all. record { returns = all.0.0.0.0; builds = all.0.0.0.1; views = all.0.0.1; again = all.0.1; silence = all.1 })
    (tried_behind is_none (itself is_none) (itself is_none) (none_lasts _) c.in-Ok-Nothing-try_again.field-0-is four (λ at keeps. c.try_silence.ensures.tried s at keeps c.try_again.new.out.items))

pub returns-in-Ok-Did-clause-faults : goal.returns-in-Ok-Did-clause-faults
returns-in-Ok-Did-clause-faults g c = tells_ok c.in-Ok-Did.ensures.faults

pub returns-in-Ok-Did-try_build-clause-faults : goal.returns-in-Ok-Did-try_build-clause-faults
returns-in-Ok-Did-try_build-clause-faults g c = tells_behind c.in-Ok-Nothing.ensures.faults (tells_ok c.in-Ok-Did-try_build.ensures.faults)

pub returns-in-Err-try_build-clause-faults : goal.returns-in-Err-try_build-clause-faults
returns-in-Err-try_build-clause-faults g c = tells_behind c.in-Ok-Nothing.ensures.faults c.in-Err-try_build.ensures.faults

pub returns-in-Ok-Did-try_views-clause-faults : goal.returns-in-Ok-Did-try_views-clause-faults
returns-in-Ok-Did-try_views-clause-faults g c = tells_behind c.in-Ok-Nothing.ensures.faults (tells_behind c.in-Ok-Nothing-try_build.ensures.faults (tells_ok c.in-Ok-Did-try_views.ensures.faults))

pub returns-in-Err-try_views-clause-faults : goal.returns-in-Err-try_views-clause-faults
returns-in-Err-try_views-clause-faults g c = tells_behind c.in-Ok-Nothing.ensures.faults (tells_behind c.in-Ok-Nothing-try_build.ensures.faults c.in-Err-try_views.ensures.faults)

pub returns-in-Ok-Did-try_again-clause-faults : goal.returns-in-Ok-Did-try_again-clause-faults
returns-in-Ok-Did-try_again-clause-faults g c = tells_behind c.in-Ok-Nothing.ensures.faults (tells_behind c.in-Ok-Nothing-try_build.ensures.faults (tells_behind c.in-Ok-Nothing-try_views.ensures.faults (tells_ok c.in-Ok-Did-try_again.ensures.faults)))

pub returns-in-Err-try_again-clause-faults : goal.returns-in-Err-try_again-clause-faults
returns-in-Err-try_again-clause-faults g c = tells_behind c.in-Ok-Nothing.ensures.faults (tells_behind c.in-Ok-Nothing-try_build.ensures.faults (tells_behind c.in-Ok-Nothing-try_views.ensures.faults c.in-Err-try_again.ensures.faults))

pub returns-clause-faults : goal.returns-clause-faults
returns-clause-faults g c = tells_behind c.in-Ok-Nothing.ensures.faults (tells_behind c.in-Ok-Nothing-try_build.ensures.faults (tells_behind c.in-Ok-Nothing-try_views.ensures.faults (tells_behind c.in-Ok-Nothing-try_again.ensures.faults c.try_silence.ensures.faults)))
