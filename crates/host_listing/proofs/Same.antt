-- Two runs of the library, of whatever programs over whatever images, that have the same listing came to the same.
use Prim.Native.Nat.{ℕ}
use mathlib.Core.List.{List}
use mathlib.Core.Path.{◌≡◌}
use Rattle.listing.specs.Told.{Told}
use Rattle.listing.specs.Told.{told as tells}
use Rattle.listing.proofs.Same.{same_listings}
use Rattle.host.specs.Answering.{new_stack, new_pool, new_ends}
use Rattle.host_listing.proofs.Always.{kept, told, values, whole}

-- the listing of a run
abbrev pub listing_of_run : ℕ → List ℕ → List ℕ → List ℕ → List ℕ → List ℕ
listing_of_run fuel memory image program new_image = whole fuel new_stack memory new_pool new_ends new_image image program

-- what it came to: how it ended, each value as it was read or the number of the refusal to read it, each living task's id, state and title
abbrev pub told_of_run : ℕ → List ℕ → List ℕ → List ℕ → List ℕ → Told
told_of_run fuel memory image program new_image =
    tells (told fuel new_stack memory new_pool new_ends new_image image program) (values fuel new_stack memory new_pool new_ends new_image image program)
    (kept fuel new_stack memory new_pool new_ends new_image image program).table

pub same_runs : (fuel fuel' : ℕ) (memory memory' image image' program program' new_image new-image' : List ℕ)
    → listing_of_run fuel memory image program new_image ≡ listing_of_run fuel' memory' image' program' new-image'
    → told_of_run fuel memory image program new_image ≡ told_of_run fuel' memory' image' program' new-image'
same_runs fuel fuel' memory memory' image image' program program' new_image new-image' same = same_listings _ _ _ _ _ _ same
