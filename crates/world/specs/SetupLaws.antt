-- Which groups a fresh world has. Assumes nothing.
use Rattle.std.specs.Prelude.{◌≡◌, ℕ, ltb, eqb}
use Rattle.std.proofs.Common.{ap, lt-ltb}
use Rattle.definitions.specs.General.{pick, some}
use Rattle.definitions.specs.World.{has_group}
use Rattle.definitions.specs.Setup.{fresh}
use Rattle.base.specs.Tests.{pick_yes}
use Rattle.base.specs.Search.{some_cong}

-- those that its processes are given
pub fresh_groups : (n : ℕ) (groups : ℕ → ℕ) (g : ℕ)
    → has_group (fresh n groups) g ≡ some n (λ p. eqb (groups p) g)
unfolding has_group fresh
fresh_groups n groups g =
    some_cong n (λ p. eqb (pick (ltb p n) (groups p) 0) g) (λ p. eqb (groups p) g)
    (λ p l. ap (λ (x : ℕ). eqb x g) (pick_yes (groups p) 0 (lt-ltb p n l)))
