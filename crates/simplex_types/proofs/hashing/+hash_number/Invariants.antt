use Rattle.simplex_types.proofs.hashing.+hash_number.Given as goal

abbrev pub decreases-hash_number : goal.decreases-hash_number
decreases-hash_number l = l.number
