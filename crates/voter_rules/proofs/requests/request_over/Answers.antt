use Rattle.voter_rules.proofs.requests.request_over.Goals as goal

pub returns-in-Ok : goal.returns-in-Ok
returns-in-Ok g c = λ m k shown waits. record { waits = waits; parent = c.in-Ok.ensures m k shown }

pub returns-in-Err : goal.returns-in-Err
returns-in-Err g c = λ m k shown waits. c.request_behind.ensures m k shown waits (c.in-Err.ensures m k shown)
