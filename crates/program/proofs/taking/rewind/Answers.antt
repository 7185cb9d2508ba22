use Rattle.runs.proofs.Going.{rewound}
use Rattle.program.proofs.taking.rewind.Goals as goal

pub returns : goal.returns
returns c = let k = c.cichowiej_rewind-n in rewound _ _ _ _ _ _ c.hold.ensures.0 c.hold.ensures.1 k.result k.ensures.honest
