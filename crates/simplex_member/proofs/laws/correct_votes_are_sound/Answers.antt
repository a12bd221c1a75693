use Rattle.simplex_member.proofs.Allowing.{begun-allowed}
use Rattle.simplex_member.proofs.Blame.{came-sound}
use Rattle.simplex_member.proofs.Peace.{none-contradicts, none-invalid}
use Rattle.simplex_member.proofs.laws.correct_votes_are_sound.Goals as goal

pub returns : goal.returns
returns g c = record {
  sound = λ f back scheme m world w faithful i j ci cj v came. came-sound g.S.Scheme f scheme m world c.lives_obey.ensures back w faithful i j ci cj v came;
  no_contradiction = λ f back scheme m world w faithful i j ci cj s own h points goes heard v came blocked.
      none-contradicts g.S.Scheme f scheme m world c.lives_obey.ensures back w faithful i j ci cj s own h (begun-allowed g.S.Scheme f s points h goes) heard v came blocked;
  none_invalid = λ f exact back scheme m world w faithful alike i j ci cj s own h points goes heard view kind batch a here.
      none-invalid g.S.Scheme f scheme m world c.lives_obey.ensures (c.rounds_obey.ensures f exact) back w faithful alike i j ci cj s own h (begun-allowed g.S.Scheme f s points h goes) heard view kind batch a here;
}
