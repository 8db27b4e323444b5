-- The fault lines of one line of version 3, apart from a scenario.
use Rattle.std.specs.Prelude.{ℕ, List, [], Option, Some, None}
use Rattle.fr_names.specs.Names.{NamesOfNode}
use Rattle.fr_scenario.specs.declared.fault_lines.LineFaults.{LineFaults}
use Rattle.fr_scenario.specs.declared.fault_lines.LineFaults.TheVariants.{One, Both}
use Rattle.fr_scenario.specs.declared.statement.Statement.{Statement}
use Rattle.fr_scenario.specs.declared.statement.Statement.TheVariants as statement
use Rattle.fr_scenario.specs.Statements.{statement_in}

-- only the line of a fault has any
abbrev pub faults_said : Option Statement → Option LineFaults
faults_said None = None
faults_said (Some statement.Nothing) = None
faults_said (Some (statement.Calls node task cycles call)) = None
faults_said (Some (statement.Fault line)) = Some (One line)
faults_said (Some (statement.Faults a b)) = Some (Both a b)
faults_said (Some (statement.Expected node cycles buffer payload)) = None

-- in a cluster with these names
abbrev pub faults_of_line : List NamesOfNode → List ℕ → Option LineFaults
faults_of_line names line = faults_said (statement_in names line)

-- by the numbers of nodes alone
abbrev pub faults_in : List ℕ → Option LineFaults
faults_in line = faults_of_line [] line
