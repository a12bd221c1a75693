use Rattle.std.proofs.Common.{◌≡◌, ◌∙◌, ◌++◌, ◌∷◌, [], ◌-◌, ◌^◌, take, ap, arith}
use Rattle.std.proofs.lemmas.List.{take_all}
use Rattle.std.specs.List.{flat_map}
use Rattle.simplex_journal.specs.Standing.{four_bytes, entry_of}
use Rattle.simplex_journal.proofs.Spelled.{spelled_generation}
use Rattle.simplex_journal.proofs.spelling.spell_generation.Goals as goal

pub returns : goal.returns
returns g c =
    let list = c.args.list.now in
    let spelling = g.M.Write.spelling in
    let all : take c.loop-message.message-index list ≡ list = take_all c.loop-message.message-index list (omega (arith, c.loop-message-test.false)) in
    spelled_generation spelling list c.args.generation c.push.new.self.items c.requires.from_one c.ranges.generation.fits c.requires.short.0
    (c.in_ok-push.ensures.items
    ∙ ap (λ l. l ++ 0 ∷ []) (c.loop-message.invariant ∙ ap (λ l. (four_bytes (2 ^ 32 - 1) ++ four_bytes c.args.generation) ++ flat_map (λ message. entry_of (spelling message)) l) all))
