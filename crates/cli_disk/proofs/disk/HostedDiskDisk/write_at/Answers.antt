use Rattle.std.proofs.Common.{◌≡◌, ◌+◌, ℕ, List, ◌++◌, length, take, drop, ◌∙◌, ap}
use Rattle.cli_disk.specs.Told.{Contents, told, written}
use Rattle.cli_disk.proofs.Left.{last_is}
use Rattle.cli_disk.proofs.disk.HostedDiskDisk.write_at.Goals as goal

pub returns-in-Ok-clause-written : goal.returns-in-Ok-clause-written
returns-in-Ok-clause-written c =
    let here : (told c.self-2.inside.log).bytes ≡ c.args.self.now.bytes = ap (λ d. d.bytes) c.self-2.view_is ∙ c.admit.ensures.same.bytes in
    ap (λ (t : Contents). t.bytes) c.wrote.ensures ∙ ap (λ (b : List ℕ). (written (told c.self-2.inside.log) c.args.at b).bytes) (last_is _ _ _ _ c.in-Ok.ensures)
    ∙ ap (λ (l : List ℕ). take c.args.at l ++ c.args.bytes.now ++ drop (c.args.at + length c.args.bytes.now) l) here
