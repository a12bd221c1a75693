use Rattle.types_codec.proofs.varint.+long_varint_of.Given as goal

abbrev pub decreases-long_varint_of : goal.decreases-long_varint_of
decreases-long_varint_of l = l.most
