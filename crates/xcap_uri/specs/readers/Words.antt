-- The AUIDs and the names of the modes, as characters.
use Rattle.std.specs.Prelude.{ℕ, List, codes, chars}

-- the three AUIDs
abbrev pub resource_lists : List ℕ
resource_lists = chars (codes "resource-lists")

abbrev pub rls_services : List ℕ
rls_services = chars (codes "rls-services")

abbrev pub xcap_caps : List ℕ
xcap_caps = chars (codes "xcap-caps")

-- the names of the three diff processing modes
abbrev pub no_patching : List ℕ
no_patching = chars (codes "no-patching")

abbrev pub xcap_patching : List ℕ
xcap_patching = chars (codes "xcap-patching")

abbrev pub aggregate : List ℕ
aggregate = chars (codes "aggregate")
