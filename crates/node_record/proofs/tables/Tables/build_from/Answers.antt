use Rattle.std.proofs.Common.{◌∙◌, sym, ap}
use Rattle.std.specs.Prelude.{option_map}
use Rattle.node_record.specs.Tables.{build_parts}
use Rattle.node_record.proofs.Firsts.{first_behind, first_there, none_before}
use Rattle.node_record.proofs.tables.Tables.build_from.Goals as goal

pub returns-in-Some-clause-behind : goal.returns-in-Some-clause-behind
returns-in-Some-clause-behind g c =
    let range = c.range.ensures.in_range tt in
    first_behind c.args.self.now.builds c.args.from c.range.result range c.in-Some.number.now c.in-Some.building.now _ c.in-Some.ensures.steps

pub returns-in-Some-clause-first : goal.returns-in-Some-clause-first
returns-in-Some-clause-first g c = λ low h k.
    let range = c.range.ensures.in_range tt in
    let number = c.in-Some.number.now in
    let building = c.in-Some.building.now in
    record {
      there = sym (k.builds number) ∙ ap (option_map build_parts) (first_there c.args.self.now.builds c.args.from c.range.result range number building _ c.in-Some.ensures.steps);
      behind = first_behind c.args.self.now.builds c.args.from c.range.result range number building _ c.in-Some.ensures.steps;
      first = λ n at below. sym (k.builds n) ∙ ap (option_map build_parts) (none_before c.args.self.now.builds c.args.from c.range.result range number building _ c.in-Some.ensures.steps n at below);
    }
