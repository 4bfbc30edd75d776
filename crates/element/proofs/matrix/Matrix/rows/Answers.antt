use Rattle.element.proofs.Split.{row-lengths}
use Rattle.element.proofs.matrix.Matrix.rows.Goals as goal

pub returns-clause-len : goal.returns-clause-len
returns-clause-len g c = let m = c.args.self.now in row-lengths m.size m.size m.entries.now m.square.1
