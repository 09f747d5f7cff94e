-- No kind's byte is 0, which is what a missing byte counts as.
use Rattle.std.specs.Prelude.{◌<◌}
use Rattle.std.proofs.Common.{arith}
use Rattle.rules.specs.Fields.{Kind, H, D, K, P, Q, M, T, W, E, Z, kind_byte}

pub kind_positive : (k : Kind) → 0 < kind_byte k
unfolding kind_byte
kind_positive H = omega arith
kind_positive D = omega arith
kind_positive K = omega arith
kind_positive P = omega arith
kind_positive Q = omega arith
kind_positive M = omega arith
kind_positive T = omega arith
kind_positive W = omega arith
kind_positive E = omega arith
kind_positive Z = omega arith
