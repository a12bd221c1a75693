use Rattle.std.proofs.Common.{◌^◌}
use Rattle.simplex_member.specs.Doing.{doings}
use Rattle.simplex_member.proofs.Ending.{acts-end}
use Rattle.simplex_member.proofs.Once.{done-once}
use Rattle.simplex_member.proofs.Pigeons.{apart-pairs}
use Rattle.simplex_member.proofs.Ranging.{acts-among}
use Rattle.simplex_member.proofs.laws.acts_end.Goals as goal

pub returns : goal.returns
returns g c = record {
  once = λ f s exact h end acts some retries all own goes.
      apart-pairs (doings s h acts) (done-once g.S.Scheme f s (c.rounds_obey.ensures f exact) some retries h all acts end goes own);
  ends = λ f s exact h end acts views members some retries all own goes among.
      acts-end g.S.Scheme f s (c.rounds_obey.ensures f exact) some retries h all acts end views members goes own among;
  anyhow = λ f s exact h end acts members some lets all own goes.
      acts-end g.S.Scheme f s (c.rounds_obey.ensures f exact) some lets.retries h all acts end (2 ^ 64) members goes own
      (acts-among g.S.Scheme f s c.records_obey.ensures lets.terms c.what_is_known_is_recorded.ensures members lets.member lets.by_members h all acts end goes own);
}
