use Rattle.std.proofs.Common.{◌≡◌, arith}
use Rattle.std.specs.Fmt.{decimal}
use Rattle.cli_audit.specs.declared.command.Command.TheVariants.{Audit, Node}
use Rattle.cli_audit.specs.Words.{spelled_once}
use Rattle.cli_audit.proofs.command.node_of.Goals as goal

pub returns-else-index-count-clause-refused : goal.returns-else-index-count-clause-refused
returns-else-index-count-clause-refused c none (Audit count) (spells, some, small) = cc
returns-else-index-count-clause-refused c none (Node path index count) (spells, below, small) =
    let first : c.args.index.now ≡ decimal index = cc in
    let second : c.args.count.now ≡ decimal count = cc in
    let same_index : index ≡ c.in_ok-index.index = spelled_once c.args.index.now index _ (omega arith, first) c.in_ok-index.ensures.spelled in
    let same_count : count ≡ c.in_ok-count.count = spelled_once c.args.count.now count _ (small, second) c.in_ok-count.ensures.spelled in
    omega arith
