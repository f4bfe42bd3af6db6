use Rattle.std.proofs.Common.{vec_len}
use Rattle.gateway.proofs.desk.Desk.drop_tokens.Given as goal

abbrev pub decreases-loop-order : goal.decreases-loop-order
decreases-loop-order l = vec_len l.self.book.waiting
