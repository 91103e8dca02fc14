-- Pages that are lent, each to several receivers.
use Rattle.std.specs.Prelude.{ℕ, List, [], ◌==◌, ◌-◌, if◌then◌else◌, Option, None, Some, slice_get}
use Rattle.cargo_core.specs.Pages.{Paged}

-- a page that is lent, and how many receivers have yet to return it
abbrev pub Loan : Type 0
Loan = Paged × ℕ

-- how many receivers have yet to return a page: 0 where it isn't lent
abbrev pub receivers : Option (Option Loan) → ℕ
receivers (Some (Some loan)) = loan.1
receivers (Some None) = 0
receivers None = 0

-- the same of the page of a number
abbrev pub receivers_at : List (Option Loan) → ℕ → ℕ
receivers_at loans n = receivers (slice_get loans n)

-- a page that isn't there
abbrev pub no_page : Paged
no_page = record { pool = record { 0 = 0 }; no = 0; bytes = [] }

-- the page of a loan; no page where nothing is lent
abbrev pub loaned : Option (Option Loan) → Paged
loaned (Some (Some loan)) = loan.0
loaned (Some None) = no_page
loaned None = no_page

-- the page of a number, which is lent
abbrev pub page_at : List (Option Loan) → ℕ → Paged
page_at loans n = loaned (slice_get loans n)

-- what is left of a loan when one more receiver returned the page: nothing, where it was the last
abbrev pub after_return : Loan → Option Loan
after_return loan = if loan.1 == 1 then None else Some (loan.0, loan.1 - 1)

-- the page that the return of a receiver gives back: the last one does
abbrev pub page_back : Loan → Option Paged
page_back loan = if loan.1 == 1 then Some loan.0 else None
