-- A list, page by page.
use Rattle.std.specs.Prelude.{◌≡◌, ◌<◌, ◌≤◌, ◌+◌, ◌++◌, ℕ, List, [], ◌∷◌, drop, length, if◌then◌else◌, Option, Some, None, IfSome, IfNone}
use Rattle.hdl_copied_handles.specs.Search.{is_found}
use Rattle.hdl_copied_handles.specs.declared.list.ListPage.{ListPage}
use Rattle.hdl_copied_handles.specs.declared.list.TheConstants.{LOOKED_MOST, PAGE_MOST}
use Rattle.hdl_copied_handles.specs.declared.listed.ListedHandle.{ListedHandle}
use Rattle.hdl_copied_handles.specs.declared.search.Search.{Search}

-- the places of those of these handles that are looked for, of which the first stands at this place
abbrev pub found_from : Search → ℕ → List ListedHandle → List ℕ
found_from search place [] = []
found_from search place (handle ∷ handles) =
    if is_found search handle then place ∷ found_from search (place + 1) handles else found_from search (place + 1) handles

-- the places of all that are looked for from the next page on
abbrev pub rest_from : Search → List ListedHandle → Option ℕ → List ℕ
rest_from search handles None = []
rest_from search handles (Some next) = found_from search next (drop next handles)

-- a page that begins at this place: it and those after it have all that are looked for from there on, in their order
pub record IsPage (search : Search) (handles : List ListedHandle) (from : ℕ) (page : ListPage) : Type 0 where
  pub whole : found_from search from (drop from handles) ≡ page.found.items ++ rest_from search handles page.next
  pub few : length page.found.items ≤ PAGE_MOST
  pub onward : IfSome page.next (λ next. (from < next) × (next ≤ from + LOOKED_MOST))
  pub ended : IfNone page.next (length handles ≤ from + LOOKED_MOST)
