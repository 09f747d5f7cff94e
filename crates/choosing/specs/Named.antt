-- The method that is asked for, by the rules' name.
use Rattle.rules.specs.Method.{Name, by_HBCS, by_cheapest, by_HEFT}
use Rattle.choosing.specs.declared.Method.{Method}
use Rattle.choosing.specs.declared.Method.TheVariants.{Hbcs, Cheapest, Heft}

unfoldable pub meant_method : Method → Name
meant_method Hbcs = by_HBCS
meant_method Cheapest = by_cheapest
meant_method Heft = by_HEFT
