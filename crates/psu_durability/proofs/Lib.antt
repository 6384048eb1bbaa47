mod Opening
mod Found
mod PoweringOn
