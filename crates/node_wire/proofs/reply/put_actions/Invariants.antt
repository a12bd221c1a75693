use Rattle.std.proofs.Common.{◌≡◌, ◌++◌, ℕ, ◌<◌, take, get_or}
use Rattle.std.specs.List.{flat_map}
use Rattle.simplex_member.specs.declared.action.Action.{Action}
use Rattle.node_wire.specs.Reply.{fitting_action, spelled_action}
use Rattle.node_wire.proofs.reply.put_actions.Given as goal

-- the actions so far are written, and each of those can be read again
abbrev pub invariant-loop-action : goal.invariant-loop-action
invariant-loop-action g l =
    (l.out.items ≡ l.fn.out.items ++ flat_map (spelled_action g.S.PublicKey.Write.spelling g.D.Write.spelling g.S.Signature.Write.spelling g.S.Certificate.Write.spelling) (take l.action-index l.actions))
    × ((k : ℕ) (d : Action _ _ _ _ _) → k < l.action-index → fitting_action g.D.PartialEq.eq g.S.PublicKey.Write.fits g.D.Write.fits g.S.Signature.Write.fits g.S.Certificate.Write.fits (get_or l.actions k d))
