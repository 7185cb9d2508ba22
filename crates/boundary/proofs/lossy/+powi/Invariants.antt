use Rattle.boundary.proofs.lossy.+powi.Given as goal

-- the exponent falls at each call
abbrev pub decreases-powi : goal.decreases-powi
decreases-powi l = l.n
