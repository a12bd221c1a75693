use Rattle.cli_hosted.proofs.Begun.{begun_of}
use Rattle.cli_hosted.proofs.session.Session.open.Goals as goal

pub returns : goal.returns
returns c =
    begun_of _ _ _ _ _ _ _ _ _ c.in-Ok.ensures c.held.result (λ b. b.value) _ _ _ _ c.new-replies.ensures.items c.set_up-node.ensures.opened c.set_up-node.ensures.as_many c.held.ensures
