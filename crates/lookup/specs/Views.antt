-- The workflow of a good request, by its view, is in range.
use Rattle.std.specs.Prelude.{List, ℕ, ◌≤◌}
use Rattle.good.specs.Ranges.{InRange}
use Rattle.good.specs.ReadIsGood.{read_is_good}
use Rattle.good.specs.RangeLaws.{good_in_range}
use Rattle.reader.specs.declared.View.{View}
use Rattle.reader.specs.Meaning.{ViewOf, meant_view}
use Rattle.lookup.specs.Lookup.{workflow_of}

pub view_in_range : (s : List ℕ) (v : View) → ViewOf s v → InRange (workflow_of s v)
view_in_range s v e = good_in_range s (meant_view v) (read_is_good _ e)

-- In numbers of the view: its tasks, processors and edges fit the arrays that are made for them.
module _ (s : List ℕ) (v : View) (view_of : ViewOf s v) where
  pub view_tasks : v.tasks ≤ 64
  view_tasks = (read_is_good s view_of).tasks_in.to_high

  pub view_processors : v.processors ≤ 16
  view_processors = (read_is_good s view_of).processors_in.to_high

  pub view_edges : v.edges ≤ 512
  view_edges = (read_is_good s view_of).edges_in
