-- Each test is true exactly where what it is of holds.
use Rattle.ix_twin.{specs.TestLaws.TestsAreExact, proofs.{Crossing.{clear_decides, crosses_decides}, SameCalls.{high_decides, low_decides, agree_decides}, SameConfigs.configs_decide}}

pub tests_are_exact : TestsAreExact
tests_are_exact = record { low = low_decides; high = high_decides; crossing = crosses_decides; clear = clear_decides; agreeing = agree_decides; configs = configs_decide }
