mod Blank
mod Lists
mod Ranges
mod Settled
mod Trips
mod Written
