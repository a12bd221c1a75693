use Rattle.simplex_resolver.proofs.Choices.{if_ok-map, on_ok-map}
use Rattle.simplex_resolver.proofs.state.State.replayed.Goals as goal

pub returns-clause-keeps : goal.returns-clause-keeps
returns-clause-keeps c = on_ok-map c.replayed.result (λ keeps views h k. record { stands = keeps views h k.stands; fits = k.fits }) c.replayed.ensures.keeps

pub returns-clause-gives : goal.returns-clause-gives
returns-clause-gives c = if_ok-map c.replayed.result (λ given gives views h k. gives views h k.stands) c.replayed.ensures.gives
