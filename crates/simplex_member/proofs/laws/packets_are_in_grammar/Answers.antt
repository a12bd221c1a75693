use Rattle.simplex_member.proofs.Blameless.{in-grammar}
use Rattle.simplex_member.proofs.laws.packets_are_in_grammar.Goals as goal

pub returns : goal.returns
returns g c = λ f back scheme m world w i correct d out.
    in-grammar g.S.Scheme f scheme m world c.lives_obey.ensures w i correct c.what_is_known_is_recorded.ensures c.what_is_produced_came.ensures back d out
